use Rattle.std.specs.Prelude.{◌≡◌, false}
use Rattle.plans.specs.{CallsControl.calls_control, CallsFit.CallsFits}
use Rattle.shm_graph.specs.{declared.memo.Memo.Memo, Whole.fits_now}
use Rattle.shm_recover.specs.Leave.{Control.{leave_parts, leave_steered}, leave_plan}
use Rattle.shm_pool.specs.Tokens.{IsFor}
use Rattle.t_uses.proofs.single.leave_by_steps.Given as goal

abbrev pub invariant-steps : goal.invariant-steps
invariant-steps l =
    let k = calls_control leave_parts leave_steered in
    (l.client.of ≡ l.pool) × (l.client.dead ≡ false) × IsFor l.client.of l.client.account k l.leaving × ((r0 : Memo) × fits_now k (CallsFits leave_parts leave_plan) l.leaving r0 l.client.account.memo)

abbrev pub decreases-steps : goal.decreases-steps
decreases-steps l = l.life.left
