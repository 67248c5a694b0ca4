use Rattle.shm_tree.proofs.Removing.{Falling}
use Rattle.shm_tree.proofs.remove.remove.Given as goal

abbrev pub invariant-levels : goal.invariant-levels
invariant-levels l = Falling l.wanted l.place.depth l.initial.depth l.depth l.tree l.made l.fn.pool l.pool l.fn.life.left l.life.left

abbrev pub decreases-levels : goal.decreases-levels
decreases-levels l = l.depth
