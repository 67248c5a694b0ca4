use Rattle.std.proofs.Common.{◌∙◌, ap, sym, subst}
use Rattle.std.specs.Prelude.{Ok}
use Rattle.shm_plain.specs.Pools.{Pool}
use Rattle.shm_tree.specs.Ending.{HasEnded}
use Rattle.shm_tree.proofs.{Emptying.ended_empty, Ending.ended_turns, closing.finish.Goals.After-close}
use Rattle.shm_tree.proofs.closing.finish.Goals as goal

ended : (c : After-close) → HasEnded c.args.died c.args.pool c.close.result (Ok tt)
ended c = subst (λ (q : Pool). HasEnded c.args.died c.args.pool q (Ok tt)) (sym c.close.ensures.is) c.in_ok-depart.ensures.ended

pub returns-clause-turns : goal.returns-clause-turns
returns-clause-turns c = ended_turns c.args.died c.args.pool c.close.result (Ok tt) c.requires.acts (ended (goal.at.returns-clause-turns c).After-close)

pub returns-clause-empty : goal.returns-clause-empty
returns-clause-empty c falling =
    ended_empty c.args.pool c.geometry.ensures.run c.requires.one c.requires.acts c.close.result falling (ap (λ (q : Pool). q.start) c.close.ensures.is ∙ c.in_ok-depart.ensures.start) c.close.ensures.end
    c.args.died (ended (goal.at.returns-clause-empty c).After-close)
