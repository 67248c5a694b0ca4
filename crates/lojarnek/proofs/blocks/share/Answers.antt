use Rattle.lojarnek.proofs.{Comes.{died_came, named_reached}, Shares.{shared_came, unshared_came}}
use Rattle.lojarnek.proofs.blocks.share.Goals as goal

pub share-requires-clause-between : goal.share-requires-clause-between
share-requires-clause-between c = λ alive. c.requires.at.ready.rests.between alive

pub share-requires-clause-reached : goal.share-requires-clause-reached
share-requires-clause-reached c = λ alive. named_reached c.args.token.now c.args.block c.requires.at c.requires.block

pub set-requires : goal.set-requires
set-requires c = let h = rw c.in-Done-Ok.field-0-is at c.in-Done-Ok.ensures.called in h.done.left_so.low

pub returns-in-Done-Ok : goal.returns-in-Done-Ok
returns-in-Done-Ok c =
    shared_came c.args.token.now c.share.new.self c.args.life.now.left c.share.new.life.left c.args.block c.requires.at c.in-Done-Ok.root c.args.roots.now.named c.set.new.self.named
    c.requires.knows c.set.ensures.at c.set.ensures.others (rw c.in-Done-Ok.field-0-is at c.in-Done-Ok.ensures.called)

pub returns-in-Done-Err : goal.returns-in-Done-Err
returns-in-Done-Err c =
    rw c.share_error.ensures (unshared_came c.args.token.now c.share.new.self c.args.life.now.left c.share.new.life.left c.args.block c.requires.at c.in-Done-Err.fault c.args.roots.now.named
    c.requires.knows (rw c.in-Done-Err.field-0-is at c.in-Done-Err.ensures.called))

pub returns-in-Died : goal.returns-in-Died
returns-in-Died c = died_came _ _ c.args.token.now c.share.new.self c.args.life.now.left c.share.new.life.left c.args.roots.now.named c.requires.at.alive c.in-Died.ensures.called.done c.in-Died.ensures.called.rests
