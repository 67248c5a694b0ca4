use Rattle.lojarnek.proofs.{Comes.{died_came, named_reached}, Words.{read_came, unread_came}}
use Rattle.lojarnek.proofs.blocks.read.Goals as goal

pub read-requires-clause-between : goal.read-requires-clause-between
read-requires-clause-between c = λ alive. c.requires.at.ready.rests.between alive

pub read-requires-clause-reached : goal.read-requires-clause-reached
read-requires-clause-reached c = λ alive. named_reached c.args.token.now c.args.block c.requires.at c.requires.block

pub returns-in-Done-Ok : goal.returns-in-Done-Ok
returns-in-Done-Ok c = λ bs knows.
    read_came c.args.token.now c.read.new.self c.args.life.now.left c.read.new.life.left c.args.block c.args.word c.requires.at c.in-Done-Ok.value bs knows (rw c.in-Done-Ok.field-0-is at c.in-Done-Ok.ensures.called)

pub returns-in-Done-Err : goal.returns-in-Done-Err
returns-in-Done-Err c = λ bs knows.
    unread_came c.args.token.now c.read.new.self c.args.life.now.left c.read.new.life.left c.args.block c.args.word c.requires.at c.in-Done-Err.field-0-0 bs knows (rw c.in-Done-Err.field-0-is at c.in-Done-Err.ensures.called)

pub returns-in-Died : goal.returns-in-Died
returns-in-Died c = λ bs knows. died_came _ _ c.args.token.now c.read.new.self c.args.life.now.left c.read.new.life.left bs c.requires.at.alive c.in-Died.ensures.called.done c.in-Died.ensures.called.rests
