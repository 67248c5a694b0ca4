use Rattle.std.proofs.Common.{vec_len}
use Rattle.shm_pool.specs.Tokens.{AllOf}
use Rattle.lojarnek.specs.Pools.{AreDesks}
use Rattle.lojarnek.proofs.pool.Pool.open.Given as goal

abbrev pub invariant-loop-token : goal.invariant-loop-token
invariant-loop-token l = AllOf l.fn.shared l.all.items × AreDesks l.fn.shared l.desks.items

abbrev pub decreases-loop-token : goal.decreases-loop-token
decreases-loop-token l = vec_len l.all
