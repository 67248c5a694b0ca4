use Rattle.std.proofs.Common.{vec_len}
use Rattle.shm_pool.specs.Tokens.{AllOf}
use Rattle.lojarnek.specs.Pools.{AreDesks}
use Rattle.lojarnek.proofs.desks.scatter.Given as goal

abbrev pub invariant-loop-token : goal.invariant-loop-token
invariant-loop-token l = AreDesks l.pool l.desks × AllOf l.pool l.all.items

abbrev pub decreases-loop-token : goal.decreases-loop-token
decreases-loop-token l = vec_len l.all
