use Rattle.lojarnek.proofs.Follows.{root_died, rooted_now, unrooted_now}
use Rattle.lojarnek.proofs.follow.root.Goals as goal

pub share-requires-clause-between : goal.share-requires-clause-between
share-requires-clause-between c = λ alive. c.requires.held.rests.between alive

pub set-requires : goal.set-requires
set-requires c = let h = rw c.in-Done-Ok.field-0-is at c.in-Done-Ok.ensures.called in h.done.left_so.low

pub returns-in-Done-Ok : goal.returns-in-Done-Ok
returns-in-Done-Ok c =
    rooted_now c.args.token.now c.share.new.self c.args.life.now.left c.share.new.life.left c.args.author c.args.block c.requires.held c.in-Done-Ok.root c.args.roots.now.named c.set.new.self.named
    c.requires.knows c.set.ensures.at c.set.ensures.others (rw c.in-Done-Ok.field-0-is at c.in-Done-Ok.ensures.called)

pub returns-in-Done-Err : goal.returns-in-Done-Err
returns-in-Done-Err c =
    rw c.share_error.ensures (unrooted_now c.args.token.now c.share.new.self c.args.life.now.left c.share.new.life.left c.args.author c.args.block c.requires.held c.in-Done-Err.fault c.args.roots.now.named
    c.requires.knows (rw c.in-Done-Err.field-0-is at c.in-Done-Err.ensures.called))

pub returns-in-Died : goal.returns-in-Died
returns-in-Died c = root_died c.args.token.now c.share.new.self c.args.life.now.left c.share.new.life.left c.args.author c.args.block c.requires.held c.args.roots.now.named c.in-Died.ensures.called
