use Rattle.std.proofs.Common.{sym, ap, ◌∙◌, refl, subst}
use Rattle.plans.specs.Tasks.{CallsMay}
use Rattle.shm_pool.proofs.Named.{called_by}
use Rattle.shm_pool.proofs.token.Client.run_plan.Goals as goal

pub run-requires-clause-me : goal.run-requires-clause-me
run-requires-clause-me g c = ap (λ x. g.P.Plan.plan.steered.me x.plan) c.new.ensures ∙ c.requires.me

pub run-requires-clause-may : goal.run-requires-clause-may
run-requires-clause-may g c = λ alive. subst (λ x. CallsMay g.P.Plan.plan g.P.Task.may x c.args.self.now.account.memo) (sym c.new.ensures) (refl, c.requires.may alive)

pub returns : goal.returns
returns g c = record { called = called_by g.P.Call.Machine.control g.P.Plan.plan (λ m. g.P.Task.rests m.plan) (λ m a. c.requires.rests m.plan a) c.args.plan c.new.result c.args.self.now c.run.new.self c.args.life.now.left c.run.new.life.left c.run.result c.new.ensures c.run.ensures.done c.run.ensures.effect }
