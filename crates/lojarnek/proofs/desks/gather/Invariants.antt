use Rattle.std.proofs.Common.{drop}
use Rattle.shm_pool.specs.Tokens.{AllOf}
use Rattle.lojarnek.specs.Pools.{AreDesks}
use Rattle.lojarnek.proofs.desks.gather.Given as goal

abbrev pub invariant-loop-desk : goal.invariant-loop-desk
invariant-loop-desk l = AreDesks l.pool (drop l.desk-index l.desks) × AllOf l.pool l.all.items
