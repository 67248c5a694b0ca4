use Rattle.std.proofs.Common.{Err}
use Rattle.lojarnek.proofs.{Comes.died_came, Shares.{dropped_at, dropped_came, redropped_came}}
use Rattle.lojarnek.proofs.blocks.empty.Goals as goal

pub drop_root-requires-clause-between : goal.drop_root-requires-clause-between
drop_root-requires-clause-between c = λ alive. c.requires.at.ready.rests.between alive

pub returns-in-Done-Ok : goal.returns-in-Done-Ok
returns-in-Done-Ok c =
    dropped_came c.args.token.now c.drop_root.new.self c.args.life.now.left c.drop_root.new.life.left c.args.root c.requires.at _ c.args.roots.now.named c.set.new.self.named c.requires.knows c.set.ensures.at c.set.ensures.others
    (rw c.in-Done-Ok.field-0-is at c.in-Done-Ok.ensures.called)

pub learn-requires-clause-at : goal.learn-requires-clause-at
learn-requires-clause-at c =
    dropped_at c.args.token.now c.drop_root.new.self c.args.life.now.left c.drop_root.new.life.left c.args.root c.requires.at (Err c.in-Done-Err.field-0-0) (rw c.in-Done-Err.field-0-is at c.in-Done-Err.ensures.called)

pub returns-in-Died : goal.returns-in-Died
returns-in-Died c = died_came _ _ c.args.token.now c.drop_root.new.self c.args.life.now.left c.drop_root.new.life.left c.args.roots.now.named c.requires.at.alive c.in-Died.ensures.called.done c.in-Died.ensures.called.rests

pub returns-in-Done : goal.returns-in-Done
returns-in-Done c =
    redropped_came c.args.token.now c.drop_root.new.self c.args.life.now.left c.drop_root.new.life.left c.args.root c.requires.at c.in-Done-Err.field-0-0 c.learn.new.token c.learn.new.life.left c.learn.new.roots.named
    (rw c.in-Done-Err.field-0-is at c.in-Done-Err.ensures.called) c.in-Done.ensures
