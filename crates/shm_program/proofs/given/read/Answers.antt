use Rattle.std.proofs.Common.{◌≡◌, ◌∙◌, rules, ap, inl, inr, map, true, Some}
use Rattle.std.specs.String.{string_bytes}
use Rattle.clap.specs.Words.{app_of, is_simple_and_free, kind_of}
use Rattle.clap.specs.declared.error.kind.ErrorKind.TheVariants.{OutOfMemory}
use Rattle.shm_program.specs.{Givens.command_of, Words.{read_by, rows_in}}
use Rattle.shm_program.proofs.Commands.{command_free, read_when, refused_when, simple_too}
use Rattle.shm_program.proofs.given.read.Goals as goal

pub returns-in-Ok : goal.returns-in-Ok
returns-in-Ok c =
    let m = c.in-Ok.matches in
    let a = app_of c.in_ok-command.command in
    let words = map string_bytes c.args.words.now in
    let free : is_simple_and_free a ≡ true = ap is_simple_and_free c.in_ok-command.ensures ∙ command_free c.args.name in
    let rows : Some (rows_in m) ≡ read_by a words = read_when a words (rows_in m) (c.in-Ok.ensures.kinds free) (c.in-Ok.ensures.matches (simple_too a free)).0 in (
      rows_in m,
      rows ∙ ap (λ b. read_by b words) c.in_ok-command.ensures,
      c.given_of.ensures,
    )

pub returns : goal.returns
returns c =
    let a = app_of c.in_ok-command.command in
    let words = map string_bytes c.args.words.now in
    let free : is_simple_and_free a ≡ true = ap is_simple_and_free c.in_ok-command.ensures ∙ command_free c.args.name in
    let other : kind_of c.in-Err.error ≡ OutOfMemory → ⊥ = λ e. search rules in
    elim (c.in-Err.ensures.kinds free) [
      | inl memory ↦ absurd (other memory)
      | inr among ↦ refused_when a words (kind_of c.in-Err.error) among ∙ ap (λ b. read_by b words) c.in_ok-command.ensures
    ]
