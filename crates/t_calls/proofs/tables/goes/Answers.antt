use Rattle.std.proofs.Common.{sym, subst}
use Rattle.shm_client.specs.Running.{IsOpen}
use Rattle.t_calls.proofs.tables.goes.Goals.{then-clients-eq2+in-Some-Ok, else-clients-eq2}
use Rattle.t_calls.proofs.tables.goes.Goals as goal

pub returns-clause-others : goal.returns-clause-others
returns-clause-others c = λ d n h.
    let drained : IsOpen d c.if-clients-eq2.pool = elim c.if-clients-eq2.branch [
      | then-clients-eq2+in-Some-Ok w ↦ subst (IsOpen d) (sym w.pool-is) (w.drain.ensures.others d n h)
      | else-clients-eq2 w ↦ subst (IsOpen d) (sym w.pool-is) h
    ] in
    c.leave.ensures.others d n drained
