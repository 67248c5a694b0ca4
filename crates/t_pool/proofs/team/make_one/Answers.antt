use Rattle.t_pool.proofs.team.make_one.Goals as goal

pub returns-in-Ok-Done-Ok-clause-root : goal.returns-in-Ok-Done-Ok-clause-root
returns-in-Ok-Done-Ok-clause-root c = c.alloc_gives.ensures.made 0 c.args.life.now.left c.alloc.new.life.left _ c.args.client.now c.alloc.new.self c.in-Ok-Done-Ok.made (rw c.in-Ok-Done-Ok.field-0-0-is at (rw c.in-Ok-Done-Ok.field-0-is at c.in-Ok-Done-Ok.ensures.called))
