use Rattle.lojarnek.proofs.{Comes.reached_by, Latches.has_set, Loose.has_none}
use Rattle.lojarnek.proofs.references.set_held.Goals as goal

pub set_ref-requires-clause-between : goal.set_ref-requires-clause-between
set_ref-requires-clause-between c = λ alive. c.requires.held.rests.between alive

pub set_ref-requires-clause-single : goal.set_ref-requires-clause-single
set_ref-requires-clause-single c = λ alive. has_none c.args.token.now.of.start c.args.token.now.account c.client.ensures.stood c.requires.held.kind

pub set_ref-requires-clause-reached : goal.set_ref-requires-clause-reached
set_ref-requires-clause-reached c = λ alive. reached_by c.args.token.now c.args.block (c.requires.held.rests.between c.requires.held.alive) c.requires.block

pub set_ref-requires-clause-target : goal.set_ref-requires-clause-target
set_ref-requires-clause-target c = λ alive some. reached_by c.args.token.now c.args.to (c.requires.held.rests.between c.requires.held.alive) (c.requires.to some)

pub returns : goal.returns
returns c = has_set c.args.token.now c.set_ref.new.self c.args.life.now.left c.set_ref.new.life.left c.args.block c.args.word c.args.to c.requires.held c.requires.block c.set_ref.result c.set_ref.ensures.called
