use Rattle.std.proofs.Common.{◌≡◌, ◌+◌, ◌*◌}
use Rattle.shm_words.specs.Layout.{bodies}
use Rattle.shm_tree.specs.Holding.{lives_below}
use Rattle.shm_tree.proofs.counting.live_blocks.Given as goal

abbrev pub invariant-loop-page : goal.invariant-loop-page
invariant-loop-page l = l.live ≡ lives_below l.pool (bodies l.pool.start.geometry + 128 * l.page)
