use Rattle.lojarnek.proofs.{Comes.died_came, Passes.{drained_came, undrained_came}}
use Rattle.lojarnek.proofs.queues.drain.Goals as goal

pub drain-requires-clause-between : goal.drain-requires-clause-between
drain-requires-clause-between c = λ alive. c.requires.at.ready.rests.between alive

pub drain-requires-clause-untaken : goal.drain-requires-clause-untaken
drain-requires-clause-untaken c = λ alive. c.requires.at.ready.untaken alive

pub returns-in-Done-Ok : goal.returns-in-Done-Ok
returns-in-Done-Ok c = λ bs knows. drained_came c.args.token.now c.drain.new.self c.args.life.now.left c.drain.new.life.left c.requires.at c.in-Done-Ok.taken bs knows (rw c.in-Done-Ok.field-0-is at c.in-Done-Ok.ensures.called)

pub returns-in-Done-Err : goal.returns-in-Done-Err
returns-in-Done-Err c = λ bs knows.
    undrained_came c.args.token.now c.drain.new.self c.args.life.now.left c.drain.new.life.left c.requires.at c.in-Done-Err.field-0-0 bs knows (rw c.in-Done-Err.field-0-is at c.in-Done-Err.ensures.called)

pub returns-in-Died : goal.returns-in-Died
returns-in-Died c = λ bs knows. died_came _ _ c.args.token.now c.drain.new.self c.args.life.now.left c.drain.new.life.left bs c.requires.at.alive c.in-Died.ensures.called.done c.in-Died.ensures.called.rests
