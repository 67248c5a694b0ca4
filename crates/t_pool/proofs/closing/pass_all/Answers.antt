use Rattle.std.proofs.Common.{◌∷◌, ◌++◌, [], subst}
use Rattle.shm_pool.specs.Tokens.{AllOf}
use Rattle.shm_pool.proofs.Ends.{of_front, of_last}
use Rattle.t_pool.proofs.closing.pass_all.Goals.{In-Some}
use Rattle.t_pool.proofs.closing.pass_all.Goals as goal

-- the tokens before the last one is taken
taken : (c : In-Some) → AllOf c.args.pool.now (c.pop.new.self.items ++ c.in-Some.token ∷ [])
taken c = subst (AllOf c.args.pool.now) c.in-Some.ensures.items c.loop-token.invariant.0

pub pass_by-requires : goal.pass_by-requires
pass_by-requires c = record { of = of_last c.args.pool.now c.pop.new.self.items c.in-Some.token (taken (goal.at.pass_by-requires c).In-Some) }

pub loop-token-preserved : goal.loop-token-preserved
loop-token-preserved c = (of_front c.args.pool.now c.pop.new.self.items (c.in-Some.token ∷ []) (taken (goal.at.loop-token-preserved c).In-Some), c.in_ok-put_back.ensures)
