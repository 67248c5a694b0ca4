use Rattle.std.proofs.Common.{◌≡◌}
use Rattle.shm_pool.specs.Called.{Rests}
use Rattle.t_pool.proofs.rows.fill.Given as goal

abbrev pub invariant-loop-made : goal.invariant-loop-made
invariant-loop-made l = (l.client.of ≡ l.initial.client.of) × Rests l.client
