use Rattle.std.proofs.Common.{◌≡◌}
use Rattle.shm_client.specs.Running.{AreOpen}
use Rattle.t_calls.proofs.traces.go_of.Given as goal

abbrev pub invariant-loop-script : goal.invariant-loop-script
invariant-loop-script l = (goal.iterator-loop-script).can_next l.script-iterator × (goal.iterator-loop-script).is_finite l.script-iterator × AreOpen l.pool × (l.pool.start ≡ l.fn.pool.start)
