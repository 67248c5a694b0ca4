use Rattle.std.proofs.Common.{subst}
use Rattle.shm_pool.specs.Tokens.{AllOf}
use Rattle.lojarnek.proofs.Lists.{all_front, all_last}
use Rattle.lojarnek.proofs.desks.scatter.Goals as goal

pub lay-requires-clause-of : goal.lay-requires-clause-of
lay-requires-clause-of c = all_last _ c.pop.new.self.items c.in-Some.token (subst (λ ts. AllOf c.args.pool.now ts) c.in-Some.ensures.items c.loop-token.invariant.1)

pub loop-token-preserved : goal.loop-token-preserved
loop-token-preserved c = (c.loop-token.invariant.0, all_front _ c.pop.new.self.items c.in-Some.token (subst (λ ts. AllOf c.args.pool.now ts) c.in-Some.ensures.items c.loop-token.invariant.1))
