use Rattle.std.proofs.lemmas.Result.{IfOk-weaker}
use Rattle.std.specs.Prelude.{None, Some}
use Rattle.shm_program.specs.Outcomes.{Spells}
use Rattle.shm_program.proofs.JobAnswers.{poll_told}
use Rattle.shm_program.proofs.answer.answer_poll.Goals as goal

pub returns-in-None : goal.returns-in-None
returns-in-None g c =
    let f = c.in-Ok.ensures.found in
    let s : Spells c.args.bytes.now c.in-Ok.trace = record { trace = f.0; short = f.2; text = f.1 } in
    rw c.in-None.is (IfOk-weaker c.tell_polls.result _ _ (λ r h. poll_told c.args.turns None c.args.bytes.now c.in-Ok.trace r.status r.finished r.text.items s h) c.tell_polls.ensures)

pub returns-in-Ok : goal.returns-in-Ok
returns-in-Ok g c =
    let f = c.in-Ok.ensures.found in
    let s : Spells c.args.bytes.now c.in-Ok.trace = record { trace = f.0; short = f.2; text = f.1 } in
    rw c.in-Some.is (IfOk-weaker c.tell_limited.result _ _ (λ r h. poll_told c.args.turns (Some c.in-Some.limit) c.args.bytes.now c.in-Ok.trace r.status r.finished r.text.items s h) c.tell_limited.ensures)
