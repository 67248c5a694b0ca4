use Rattle.std.proofs.Common.{◌<◌, refl, sym, subst}
use Rattle.shm_graph.specs.declared.ask.Me.{Me}
use Rattle.plans.specs.Words.{word_control}
use Rattle.shm_ref.specs.{HomeOf.{finding, home_of_plan}, Proved.LatchTasks.HomeOfMay}
use Rattle.shm_pool.proofs.Named.{called_as, called_dead, may_as}
use Rattle.shm_pool.proofs.token.Client.home_of.Goals as goal

pub new-requires-clause-author : goal.new-requires-clause-author
new-requires-clause-author c = let x = c.in-Some.ensures.alive in subst (λ (z : Me). c.args.author < z.geometry.clients) (sym x.is) (c.requires.author x.alive)

pub run_plan-requires-clause-may : goal.run_plan-requires-clause-may
run_plan-requires-clause-may c = λ alive. may_as HomeOfMay (λ x. finding x c.args.author) c.in-Some.ensures.alive c.new.ensures (refl, c.requires.author alive)

pub returns : goal.returns
returns c = record { called = called_as word_control home_of_plan (λ x. finding x c.args.author) c.in-Some.ensures.alive c.new.ensures c.run_plan.ensures.called }

pub returns-in_default : goal.returns-in_default
returns-in_default c = record { called = called_dead word_control home_of_plan _ c.args.self.now c.args.life.now.left c.in_default.ensures.stood (c.in_default.ensures.dead refl) }
