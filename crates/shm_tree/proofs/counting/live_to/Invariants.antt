use Rattle.std.proofs.Common.{◌≡◌, ◌+◌}
use Rattle.shm_tree.specs.Holding.{lives_below}
use Rattle.shm_tree.proofs.counting.live_to.Given as goal

abbrev pub invariant-loop-index : goal.invariant-loop-index
invariant-loop-index l = l.live ≡ lives_below l.pool (l.first + l.index)
