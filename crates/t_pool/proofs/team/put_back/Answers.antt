use Rattle.std.proofs.Common.{sym, subst}
use Rattle.shm_pool.specs.Tokens.{AllOf}
use Rattle.t_pool.proofs.FirstTokens.{of_push}
use Rattle.t_pool.proofs.team.put_back.Goals as goal

pub returns : goal.returns
returns c = subst (AllOf c.args.pool.now) (sym c.in_ok-push.ensures.items) (of_push c.args.pool.now c.args.all.now.items c.args.token c.requires.all c.requires.of)
