use Rattle.shm_plain.proofs.Stilling.{still_end}
use Rattle.shm_plain.proofs.pool.PlainPool.close.Goals as goal

pub invariant_of-result : goal.invariant_of-result
invariant_of-result c = still_end c.args.self c.geometry.ensures.run c.requires

pub returns-clause-end : goal.returns-clause-end
returns-clause-end c = still_end c.args.self c.geometry.ensures.run c.requires
