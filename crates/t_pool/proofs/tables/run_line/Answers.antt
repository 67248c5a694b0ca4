use Rattle.t_pool.proofs.Opens.{may_run, open_after}
use Rattle.t_pool.proofs.tables.run_line.Goals as goal
use Rattle.shm_pool.specs.declared.reply.Reply.TheVariants.{Died, Done}

pub command-requires-clause-line : goal.command-requires-clause-line
command-requires-clause-line c = λ alive. may_run c.args.client.now c.args.line.now c.requires.open c.me.ensures.kind c.requires.line alive

pub returns-in-Done-clause-open : goal.returns-in-Done-clause-open
returns-in-Done-clause-open c = open_after c.args.line.now c.args.client.now c.command.new.self _ _ (Done c.in-Done.answer) c.in-Done.ensures.called c.requires.open

pub returns-in-Died-clause-open : goal.returns-in-Died-clause-open
returns-in-Died-clause-open c = open_after c.args.line.now c.args.client.now c.command.new.self _ _ Died c.in-Died.ensures.called c.requires.open
