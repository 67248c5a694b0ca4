use Rattle.std.proofs.Common.{vec_len}
use Rattle.shm_pool.specs.Tokens.{AllOf}
use Rattle.t_pool.proofs.closing.pass_all.Given as goal

abbrev pub invariant-loop-token : goal.invariant-loop-token
invariant-loop-token l = AllOf l.pool l.all.items × AllOf l.pool l.passed.items

abbrev pub decreases-loop-token : goal.decreases-loop-token
decreases-loop-token l = vec_len l.all
