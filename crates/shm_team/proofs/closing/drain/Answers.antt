use Rattle.shm_team.proofs.Visiting.{drain_here, drain_may, drain_ran, drain_stayed}
use Rattle.shm_team.proofs.closing.drain.Goals as goal

pub drain-requires-clause-untaken : goal.drain-requires-clause-untaken
drain-requires-clause-untaken g c = λ _. c.requires.may.0.takes

pub returns-in-Done-Ok-clause-here : goal.returns-in-Done-Ok-clause-here
returns-in-Done-Ok-clause-here g c = drain_here c.args.client.now c.drain.new.self _ _ c.in-Done-Ok.field-0-0 (rw c.in-Done-Ok.field-0-is at c.in-Done-Ok.ensures.called)

pub returns-in-Done-Ok-clause-may : goal.returns-in-Done-Ok-clause-may
returns-in-Done-Ok-clause-may g c = drain_may c.args.client.now c.drain.new.self _ _ c.in-Done-Ok.field-0-0 (rw c.in-Done-Ok.field-0-is at c.in-Done-Ok.ensures.called) c.requires.may

pub returns-in-Done-Ok-clause-ran : goal.returns-in-Done-Ok-clause-ran
returns-in-Done-Ok-clause-ran g c = drain_ran c.args.client.now c.drain.new.self _ _ c.in-Done-Ok.field-0-0 (rw c.in-Done-Ok.field-0-is at c.in-Done-Ok.ensures.called) c.requires.here c.requires.between

pub returns-in-Done-Ok-clause-stayed : goal.returns-in-Done-Ok-clause-stayed
returns-in-Done-Ok-clause-stayed g c = drain_stayed c.args.client.now c.drain.new.self _ _ c.in-Done-Ok.field-0-0 (rw c.in-Done-Ok.field-0-is at c.in-Done-Ok.ensures.called) c.requires.here c.requires.may
