use Rattle.std.proofs.Common.{ap, ◌∙◌, arith}
use Rattle.shm_tree.specs.Keeping.{child_of, other_side}
use Rattle.shm_tree.proofs.Answering.{child_still, node_still, reached_then}
use Rattle.shm_tree.proofs.Building.{looked, looked_then, looks_after, looks_done, looks_from}
use Rattle.shm_tree.proofs.Lasts.{last_after, last_any, late_from}
use Rattle.shm_tree.proofs.node.children.Goals as goal

pub child-requires-2-clause-latch : goal.child-requires-2-clause-latch
child-requires-2-clause-latch c = c.in_ok-near.ensures.looks.latch ∙ c.requires.latch

pub child-requires-2-clause-node : goal.child-requires-2-clause-node
child-requires-2-clause-node c = node_still c.args.pool.now c.child.new.pool c.args.node c.in_ok-near.ensures.looks.still c.requires.node

pub child-requires-2-clause-reached : goal.child-requires-2-clause-reached
child-requires-2-clause-reached c = reached_then c.args.pool.now c.child.new.pool c.args.node c.requires.reached c.in_ok-near.ensures.looks.reaches

pub returns-in_err-near-clause-looks : goal.returns-in_err-near-clause-looks
returns-in_err-near-clause-looks c = looks_from c.from_residual.result c.from_residual.ensures.1 c.in_err-near.ensures.looks

pub returns-in_err-far-clause-looks : goal.returns-in_err-far-clause-looks
returns-in_err-far-clause-looks c =
    let n = c.in_ok-near.ensures.looks in
    looks_from c.from_residual-in_err-far.result c.from_residual-in_err-far.ensures.1 (looks_after c.requires.working.run n.went n.latch c.in_err-far.ensures.looks)

pub returns-clause-looks : goal.returns-clause-looks
returns-clause-looks c = looks_done _ (looked_then c.requires.working.run (looked c.in_ok-near.ensures.looks) (looked c.in_ok-far.ensures.looks))

pub returns-clause-far : goal.returns-clause-far
returns-clause-far c =
    let p = c.args.pool.now in
    let m = c.child.new.pool in
    c.in_ok-far.ensures.names ∙ (ap (λ s. child_of m c.args.node s) c.other.ensures ∙ child_still p m c.args.node (other_side c.args.side) c.in_ok-near.ensures.looks.still c.requires.node)

pub returns-clause-near_reached : goal.returns-clause-near_reached
returns-clause-near_reached c = reached_then c.child.new.pool c.child-2.new.pool c.in_ok-near.near c.in_ok-near.ensures.reached c.in_ok-far.ensures.looks.reaches

pub returns-in_err-near-clause-late : goal.returns-in_err-near-clause-late
returns-in_err-near-clause-late c = late_from c.from_residual.result c.from_residual.ensures.1 (λ e. last_any 6 (c.in_err-near.ensures.late e))

pub returns-in_err-far-clause-late : goal.returns-in_err-far-clause-late
returns-in_err-far-clause-late c =
    let s = c.in_ok-near.ensures.steps in
    late_from c.from_residual-in_err-far.result c.from_residual-in_err-far.ensures.1 (λ e. last_after 3 6 (omega arith) c.requires.working c.in_ok-near.ensures.looks.went (omega (arith, s)) (c.in_err-far.ensures.late e))
