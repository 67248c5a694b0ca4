use Rattle.lojarnek.proofs.{Comes.reached_by, Follows.{look_died, looked_now, unheld_now, unlooked_now}}
use Rattle.lojarnek.proofs.follow.look.Goals as goal

pub look-requires-clause-between : goal.look-requires-clause-between
look-requires-clause-between c = λ alive. c.requires.held.rests.between alive

pub look-requires-clause-reached : goal.look-requires-clause-reached
look-requires-clause-reached c = λ alive. reached_by c.args.token.now c.args.block (c.requires.held.rests.between alive) c.requires.block

pub returns-in-Done-Ok : goal.returns-in-Done-Ok
returns-in-Done-Ok c = looked_now c.args.token.now c.look.new.self c.args.life.now.left c.look.new.life.left c.args.author c.args.block c.args.word c.requires.held c.in-Done-Ok.found (rw c.in-Done-Ok.field-0-is at c.in-Done-Ok.ensures.called)

pub returns-in-Died : goal.returns-in-Died
returns-in-Died c = look_died c.args.token.now c.look.new.self c.args.life.now.left c.look.new.life.left c.args.author c.args.block c.args.word c.requires.held c.in-Died.ensures.called

pub returns-in-Done-Err-NoSuchRef : goal.returns-in-Done-Err-NoSuchRef
returns-in-Done-Err-NoSuchRef c =
    let h = rw c.in-Done-Err-NoSuchRef.field-0-is at c.in-Done-Err-NoSuchRef.ensures.called in
    unlooked_now c.args.token.now c.look.new.self c.args.life.now.left c.look.new.life.left c.args.author c.args.block c.args.word c.requires.held c.in-Done-Err-NoSuchRef.refs (rw c.in-Done-Err-NoSuchRef.field-0-0-is at h)

pub returns-in-Done-Err-NotHeld : goal.returns-in-Done-Err-NotHeld
returns-in-Done-Err-NotHeld c =
    let h = rw c.in-Done-Err-NotHeld.field-0-is at c.in-Done-Err-NotHeld.ensures.called in
    unheld_now c.args.token.now c.look.new.self c.args.life.now.left c.look.new.life.left c.args.author c.args.block c.args.word c.requires.held (rw c.in-Done-Err-NotHeld.field-0-0-is at h)
