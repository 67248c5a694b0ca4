use Rattle.std.proofs.Common.{◌<◌, refl, sym, subst}
use Rattle.shm_graph.specs.declared.ask.Me.{Me}
use Rattle.plans.specs.Words.{word_control}
use Rattle.shm_ref.specs.{Hold.{Control.holding, hold_plan}, Proved.LatchTasks.HoldMay}
use Rattle.shm_pool.proofs.Named.{called_as, called_dead, may_as}
use Rattle.shm_pool.proofs.token.Client.hold.Goals as goal

pub new-requires-clause-author : goal.new-requires-clause-author
new-requires-clause-author c = let x = c.in-Some.ensures.alive in subst (λ (z : Me). c.args.author < z.geometry.clients) (sym x.is) (c.requires.author x.alive)

pub run_plan-requires-clause-may : goal.run_plan-requires-clause-may
run_plan-requires-clause-may c = λ alive. may_as HoldMay (λ x. holding x c.args.author) c.in-Some.ensures.alive c.new.ensures (refl, c.requires.author alive, c.requires.none alive)

pub returns : goal.returns
returns c = record { called = called_as word_control hold_plan (λ x. holding x c.args.author) c.in-Some.ensures.alive c.new.ensures c.run_plan.ensures.called }

pub returns-in_default : goal.returns-in_default
returns-in_default c = record { called = called_dead word_control hold_plan _ c.args.self.now c.args.life.now.left c.in_default.ensures.stood (c.in_default.ensures.dead refl) }
