use Rattle.shm_tree.proofs.Costing.{Swept}
use Rattle.shm_tree.proofs.sweeping.swept.Given as goal

abbrev pub invariant-loop-root : goal.invariant-loop-root
invariant-loop-root l = Swept l.roots l.root l.fn.pool l.pool l.fn.life.left l.life.left
