use Rattle.std.proofs.Common.{◌<◌, length, sym, ap, ◌∙◌, arith, ◌≡◌, map, get_or, Global, Some}
use Rattle.std.specs.{String.string_bytes, declared.string.String.String}
use Rattle.shm_program.specs.Words.{NamesCommand, name_of}
use Rattle.shm_program.proofs.Commands.{at_each_err, names_command}
use Rattle.shm_program.proofs.words.job_of.Goals as goal

pub returns-in-Some-clause-memory : goal.returns-in-Some-clause-memory
returns-in-Some-clause-memory c =
    let some : 0 < length c.args.words.now = omega arith in
    let first : name_of c.as_str.result.now ≡ Some c.in-Some.name = sym c.name_of.ensures ∙ c.in-Some.is in
    let named : name_of (string_bytes c.first-item.result) ≡ Some c.in-Some.name = ap name_of (sym c.as_str.ensures.value) ∙ first in
    let here : name_of (string_bytes (get_or c.args.words.now 0 c.first-item.result)) ≡ Some c.in-Some.name = ap (λ (w : String Global). name_of (string_bytes w)) (sym c.first-item.is) ∙ named in
    at_each_err _ (NamesCommand (map string_bytes c.args.words.now)) (names_command string_bytes c.args.words.now c.first-item.result c.in-Some.name some here)
