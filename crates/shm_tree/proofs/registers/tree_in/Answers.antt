use Rattle.shm_tree.proofs.{Building.{looked_none, looks_done}, Costing.ok_least}
use Rattle.shm_tree.proofs.registers.tree_in.Goals as goal

pub returns-then-root-eq-NONE-clause-looks : goal.returns-then-root-eq-NONE-clause-looks
returns-then-root-eq-NONE-clause-looks c = looks_done 0 (looked_none c.args.pool.now c.args.life.now.left c.requires.working)

pub returns-else-root-eq-NONE-clause-steps : goal.returns-else-root-eq-NONE-clause-steps
returns-else-root-eq-NONE-clause-steps c = ok_least _ _ 1 _ c.root_of.ensures.steps
