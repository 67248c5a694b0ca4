use Rattle.std.proofs.Common.{◌≡◌, subst}
use Rattle.std.specs.{Prelude.IfSome, Option.option_to_list}
use Rattle.shm_pool.specs.Tokens.{Token, token_first}
use Rattle.t_pool.specs.Clients.{AllFirst}
use Rattle.t_pool.proofs.{FirstTokens.{all_of, first_front, of_first, popped}, team.pop_of.Goals.After-pop}
use Rattle.t_pool.proofs.team.pop_of.Goals as goal

one : (c : After-pop) → IfSome c.pop.result (λ (t : Token). t ≡ token_first c.args.pool.now t.account.who)
one c = popped c.args.pool.now c.pop.new.self.items c.pop.result (subst (AllFirst c.args.pool.now) c.pop.ensures.items c.requires)

pub returns-clause-rest : goal.returns-clause-rest
returns-clause-rest c = first_front c.args.pool.now c.pop.new.self.items (option_to_list c.pop.result) (subst (AllFirst c.args.pool.now) c.pop.ensures.items c.requires)

pub returns-clause-of : goal.returns-clause-of
returns-clause-of c = of_first c.args.pool.now c.pop.result (one (goal.at.returns-clause-of c).After-pop)

pub returns-clause-tokens : goal.returns-clause-tokens
returns-clause-tokens c = all_of c.args.pool.now c.pop.new.self.items (first_front c.args.pool.now c.pop.new.self.items (option_to_list c.pop.result) (subst (AllFirst c.args.pool.now) c.pop.ensures.items c.requires))

pub returns-clause-first : goal.returns-clause-first
returns-clause-first c = one (goal.at.returns-clause-first c).After-pop
