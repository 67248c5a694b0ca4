use Rattle.lojarnek.proofs.Giving.{given}
use Rattle.lojarnek.proofs.latch.give.Goals as goal

pub release-requires-clause-between : goal.release-requires-clause-between
release-requires-clause-between c = λ alive. c.requires.held.1.rests.between alive

pub release-requires-clause-held : goal.release-requires-clause-held
release-requires-clause-held c = λ alive. (c.requires.held.0, c.requires.held.1.latch)

pub returns : goal.returns
returns c = given c.args.token.now c.release.new.self c.args.life.now.left c.release.new.life.left c.requires.held.0 c.requires.held.1 c.client.ensures.stood c.release.result c.release.ensures.called
