use Rattle.std.proofs.Common.{◌∙◌, arith}
use Rattle.shm_tree.proofs.Answering.{node_still, number_still, reached_then}
use Rattle.shm_tree.proofs.Building.{looked, looked_then, looks_after, looks_done, looks_from}
use Rattle.shm_tree.proofs.Lasts.{last_after, last_any, late_from}
use Rattle.shm_tree.proofs.node.content_of.Goals as goal

pub number-requires-clause-node : goal.number-requires-clause-node
number-requires-clause-node c = node_still c.args.pool.now c.key.new.pool c.args.node c.in_ok-key.ensures.looks.still c.requires.node

pub number-requires-clause-reached : goal.number-requires-clause-reached
number-requires-clause-reached c = reached_then c.args.pool.now c.key.new.pool c.args.node c.requires.reached c.in_ok-key.ensures.looks.reaches

pub returns-in_err-key-clause-looks : goal.returns-in_err-key-clause-looks
returns-in_err-key-clause-looks c = looks_from c.from_residual.result c.from_residual.ensures.1 c.in_err-key.ensures.looks

pub returns-in_err-number-clause-looks : goal.returns-in_err-number-clause-looks
returns-in_err-number-clause-looks c =
    let k = c.in_ok-key.ensures.looks in
    looks_from c.from_residual-in_err-number.result c.from_residual-in_err-number.ensures.1 (looks_after c.requires.working.run k.went k.latch c.in_err-number.ensures.looks)

pub returns-clause-looks : goal.returns-clause-looks
returns-clause-looks c = looks_done _ (looked_then c.requires.working.run (looked c.in_ok-key.ensures.looks) (looked c.in_ok-number.ensures.looks))

pub returns-clause-number : goal.returns-clause-number
returns-clause-number c = c.in_ok-number.ensures.is ∙ number_still c.args.pool.now c.key.new.pool c.args.node c.in_ok-key.ensures.looks.still c.requires.node

pub returns-in_err-key-clause-late : goal.returns-in_err-key-clause-late
returns-in_err-key-clause-late c = late_from c.from_residual.result c.from_residual.ensures.1 (λ e. last_any 4 (c.in_err-key.ensures.late e))

pub returns-in_err-number-clause-late : goal.returns-in_err-number-clause-late
returns-in_err-number-clause-late c =
    let s = c.in_ok-key.ensures.steps in
    late_from c.from_residual-in_err-number.result c.from_residual-in_err-number.ensures.1 (λ e. last_after 2 4 (omega arith) c.requires.working c.in_ok-key.ensures.looks.went (omega (arith, s)) (c.in_err-number.ensures.late e))
