use Rattle.t_pool.proofs.FirstTokens.{all_of}
use Rattle.t_threads.proofs.pools.a_missing_token_is_named.Goals as goal

pub close-requires : goal.close-requires
close-requires g c = all_of c.in_ok-pool.pool c.pop_of.new.all.items c.pop_of.ensures.rest
