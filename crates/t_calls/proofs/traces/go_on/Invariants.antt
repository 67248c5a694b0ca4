use Rattle.std.proofs.Common.{◌≡◌}
use Rattle.shm_client.specs.Running.{AreOpen}
use Rattle.t_calls.proofs.traces.go_on.Given as goal

abbrev pub invariant-loop-line : goal.invariant-loop-line
invariant-loop-line l = (goal.iterator-loop-line).can_next l.line-iterator × (goal.iterator-loop-line).is_finite l.line-iterator × AreOpen l.pool × (l.pool.start ≡ l.fn.pool.start)
