use Rattle.shm_tree.proofs.Inserting.{Rising}
use Rattle.shm_tree.proofs.insert.insert.Given as goal

abbrev pub invariant-levels : goal.invariant-levels
invariant-levels l = Rising l.wanted l.number l.depth l.initial.depth l.tree l.made l.fn.pool l.pool l.fn.life.left l.life.left

abbrev pub decreases-levels : goal.decreases-levels
decreases-levels l = l.depth
