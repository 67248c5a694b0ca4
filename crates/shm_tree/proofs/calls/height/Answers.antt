use Rattle.shm_tree.proofs.{Answering.{height_none, height_read, node_of}, Building.{looked_none, looks_done}}
use Rattle.shm_tree.proofs.Counts.{taken_most}
use Rattle.shm_tree.proofs.calls.height.Goals as goal

pub plain-requires-clause-node : goal.plain-requires-clause-node
plain-requires-clause-node c = node_of c.args.pool.now c.args.tree c.if-tree-eq0.false c.requires.tree

pub returns-then-tree-eq0-clause-looks : goal.returns-then-tree-eq0-clause-looks
returns-then-tree-eq0-clause-looks c = looks_done 0 (looked_none c.args.pool.now c.args.life.now.left c.requires.working)

pub returns-then-tree-eq0-clause-is : goal.returns-then-tree-eq0-clause-is
returns-then-tree-eq0-clause-is c = λ t y. height_none c.args.pool.now c.args.tree t c.if-tree-eq0.true y

pub returns-else-tree-eq0-clause-is : goal.returns-else-tree-eq0-clause-is
returns-else-tree-eq0-clause-is c = height_read c.args.pool.now c.args.tree c.plain.result c.if-tree-eq0.false c.plain.ensures.is

pub returns-else-tree-eq0-clause-steps : goal.returns-else-tree-eq0-clause-steps
returns-else-tree-eq0-clause-steps c = taken_most 2 c.args.life.now.left c.plain.new.life.left c.plain.result c.plain.ensures.steps
