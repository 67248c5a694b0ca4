use Rattle.std.proofs.Common.{drop}
use Rattle.lojarnek.specs.Pools.{AreDesks}
use Rattle.lojarnek.proofs.desks.lay.Given as goal

abbrev pub invariant-loop-desk : goal.invariant-loop-desk
invariant-loop-desk l = AreDesks l.pool (drop l.desk-index l.desks)
