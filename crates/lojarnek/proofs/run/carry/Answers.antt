use Rattle.lojarnek.proofs.Ready.{commanded_died, commanded_lives, commanded_same, may_run, ready_after}
use Rattle.lojarnek.proofs.run.carry.Goals as goal

pub command-requires-clause-between : goal.command-requires-clause-between
command-requires-clause-between c = λ alive. c.requires.ready.rests.between alive

pub command-requires-clause-line : goal.command-requires-clause-line
command-requires-clause-line c = λ alive. may_run c.args.token.now c.args.line.now c.requires.ready c.me.ensures.stood c.me.ensures.kind c.requires.tables c.requires.fits alive

pub returns-clause-same : goal.returns-clause-same
returns-clause-same c = commanded_same c.args.line.now c.args.token.now c.command.new.self _ _ c.command.result c.command.ensures.called

pub returns-clause-ready : goal.returns-clause-ready
returns-clause-ready c = ready_after c.args.line.now c.args.token.now c.command.new.self _ _ c.command.result c.command.ensures.called c.requires.ready

pub returns-clause-lives : goal.returns-clause-lives
returns-clause-lives c = commanded_lives c.args.line.now c.args.token.now c.command.new.self _ _ c.command.result c.command.ensures.called

pub returns-clause-died : goal.returns-clause-died
returns-clause-died c = commanded_died c.args.line.now c.args.token.now c.command.new.self _ _ c.command.result c.command.ensures.called
