use Rattle.std.proofs.Common.{◌≤◌, ◌-◌, false}
use Rattle.shm_async.specs.Rescued.{GoesOn, HasStepped}
use Rattle.shm_async.proofs.recovery.step_some.Given as goal

abbrev pub invariant-loop-made : goal.invariant-loop-made
invariant-loop-made l = HasStepped false l.made l.initial.rescuer l.rescuer l.initial.life l.life × GoesOn l.pool l.rescuer × (l.made ≤ l.q)

abbrev pub decreases-loop-made : goal.decreases-loop-made
decreases-loop-made l = l.q - l.made
