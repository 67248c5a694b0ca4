use Rattle.shm_tree.proofs.Ways.{height_at}
use Rattle.shm_tree.proofs.counting.+size_of.Given as goal

abbrev pub decreases-size_of : goal.decreases-size_of
decreases-size_of l = height_at l.pool.now l.tree
