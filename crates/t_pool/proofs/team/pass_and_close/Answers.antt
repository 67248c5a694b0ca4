use Rattle.std.proofs.Common.{sym, subst}
use Rattle.t_pool.specs.Clients.{AllFirst}
use Rattle.t_pool.proofs.FirstTokens.{all_first}
use Rattle.t_pool.proofs.team.pass_and_close.Goals as goal

pub pop_of-requires : goal.pop_of-requires
pop_of-requires g c = subst (AllFirst c.in_ok-pool.pool) (sym c.in_ok-pool.ensures.tokens) (all_first c.in_ok-pool.pool 0 c.args.geometry.clients)
