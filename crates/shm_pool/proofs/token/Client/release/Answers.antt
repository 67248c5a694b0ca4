use Rattle.std.proofs.Common.{refl}
use Rattle.plans.specs.Words.{word_control}
use Rattle.shm_ref.specs.{Proved.LatchTasks.ReleaseMay, Release.{release_plan, releasing}}
use Rattle.shm_pool.proofs.Named.{called_as, called_dead, may_as}
use Rattle.shm_pool.proofs.token.Client.release.Goals as goal

pub run_plan-requires-clause-may : goal.run_plan-requires-clause-may
run_plan-requires-clause-may c = λ alive. may_as ReleaseMay (λ x. releasing x) c.in-Some.ensures.alive c.new.ensures (refl, c.requires.held alive)

pub returns : goal.returns
returns c = record { called = called_as word_control release_plan (λ x. releasing x) c.in-Some.ensures.alive c.new.ensures c.run_plan.ensures.called }

pub returns-in_default : goal.returns-in_default
returns-in_default c = record { called = called_dead word_control release_plan _ c.args.self.now c.args.life.now.left c.in_default.ensures.stood (c.in_default.ensures.dead refl) }
