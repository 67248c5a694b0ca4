use Rattle.std.proofs.Common.{subst}
use Rattle.shm_pool.specs.Tokens.{AllOf}
use Rattle.t_threads.proofs.Popping.{token_popped}
use Rattle.t_threads.proofs.morgue.pop_token.Goals as goal

pub returns-clause-rest : goal.returns-clause-rest
returns-clause-rest c = (token_popped c.args.pool.now c.pop.new.self.items c.pop.result (subst (AllOf c.args.pool.now) c.pop.ensures.items c.requires)).0

pub returns-clause-of : goal.returns-clause-of
returns-clause-of c = (token_popped c.args.pool.now c.pop.new.self.items c.pop.result (subst (AllOf c.args.pool.now) c.pop.ensures.items c.requires)).1
