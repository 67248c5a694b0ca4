use Rattle.std.proofs.lemmas.Result.{IfOk-weaker}
use Rattle.shm_program.proofs.telling.tell_limited.Goals as goal

pub returns : goal.returns
returns g c =
    let run = c.in_ok-run.run' in
    let (turns, r) = c.in_ok-run.ensures in
    IfOk-weaker c.polled.result _ _ (λ v e. (e.0, record { scripts = r.scripts; told = (record { run = run; kept = e.1; turns = turns; team = r.run }, e.2 turns r.run.closed r.run.table r.run.is); limited = r.limited })) c.polled.ensures
