use Rattle.std.proofs.{Common.{sym, ◌∙◌}, lemmas.Bool.true≢false}
use Rattle.lojarnek.proofs.{Comes.{died_came, named_reached}, Loose.has_none, Passes.{sent_came, unsent_came}}
use Rattle.lojarnek.proofs.queues.send.Goals as goal

pub send-requires-clause-between : goal.send-requires-clause-between
send-requires-clause-between c = λ alive. c.requires.at.ready.rests.between alive

pub send-requires-clause-to : goal.send-requires-clause-to
send-requires-clause-to c = λ alive. (c.requires.to.0, λ e. c.requires.to.1 (sym e))

pub send-requires-clause-reached : goal.send-requires-clause-reached
send-requires-clause-reached c = λ alive. named_reached c.args.token.now c.args.block c.requires.at c.requires.block

pub send-requires-clause-value : goal.send-requires-clause-value
send-requires-clause-value c = λ alive table. absurd (true≢false (sym (has_none c.args.token.now.of.start c.args.token.now.account c.client.ensures.stood c.requires.at.kind) ∙ table))

pub send-requires-clause-unsent : goal.send-requires-clause-unsent
send-requires-clause-unsent c = λ alive. c.requires.at.ready.unsent alive c.args.to

pub returns-in-Done-Ok : goal.returns-in-Done-Ok
returns-in-Done-Ok c = λ bs knows.
    sent_came c.args.token.now c.send.new.self c.args.life.now.left c.send.new.life.left c.args.to c.args.block c.requires.at _ bs knows (rw c.in-Done-Ok.field-0-is at c.in-Done-Ok.ensures.called)

pub returns-in-Done-Err : goal.returns-in-Done-Err
returns-in-Done-Err c = λ bs knows.
    rw c.send_error.ensures (unsent_came c.args.token.now c.send.new.self c.args.life.now.left c.send.new.life.left c.args.to c.args.block c.requires.at c.in-Done-Err.fault bs knows (rw c.in-Done-Err.field-0-is at c.in-Done-Err.ensures.called))

pub returns-in-Died : goal.returns-in-Died
returns-in-Died c = λ bs knows. died_came _ _ c.args.token.now c.send.new.self c.args.life.now.left c.send.new.life.left bs c.requires.at.alive c.in-Died.ensures.called.done c.in-Died.ensures.called.rests
