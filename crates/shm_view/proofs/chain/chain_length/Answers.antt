use Rattle.shm_audit.specs.Images.{numbers}
use Rattle.shm_view.proofs.Chaining.{chain_step}
use Rattle.shm_view.proofs.chain.chain_length.Goals as goal

pub loop-length-preserved : goal.loop-length-preserved
loop-length-preserved c =
    chain_step (numbers c.args.words.now) c.args.most c.loop-length.length c.args.first c.loop-length.entry c.word_after-entry.result
    c.loop-length-test.true c.if-entry-eq0.false c.word_after-entry.ensures c.loop-length.invariant
