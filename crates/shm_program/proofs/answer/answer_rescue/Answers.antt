use Rattle.std.proofs.lemmas.Result.{IfOk-weaker}
use Rattle.shm_program.specs.Outcomes.{Spells}
use Rattle.shm_program.proofs.JobAnswers.{rescue_told}
use Rattle.shm_program.proofs.answer.answer_rescue.Goals as goal

pub returns-in-Ok : goal.returns-in-Ok
returns-in-Ok g c =
    let f = c.in-Ok.ensures.found in
    let s : Spells c.args.bytes.now c.in-Ok.trace = record { trace = f.0; short = f.2; text = f.1 } in
    IfOk-weaker c.tell_rescue.result _ _ (λ r h. rescue_told c.args.form c.args.medics c.args.bytes.now c.in-Ok.trace r.status r.finished r.text.items s h) c.tell_rescue.ensures
