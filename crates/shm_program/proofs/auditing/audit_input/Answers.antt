use Rattle.std.proofs.lemmas.Result.{IfOk-weaker}
use Rattle.shm_program.proofs.auditing.audit_input.Goals as goal

pub returns-in-Ok : goal.returns-in-Ok
returns-in-Ok g c =
    let j = c.in-Ok.ensures.judged in
    record {
      read = (j.0, record { front = j.2; few = j.1; quiet = c.in-Ok.ensures.no_fault }, IfOk-weaker c.tell_audit.result _ _ (λ r h. h j.0 j.3) c.tell_audit.ensures);
      unread = tt;
    }
