use Rattle.std.proofs.Common.{refl}
use Rattle.plans.specs.Words.{word_control}
use Rattle.shm_ref.specs.{Proved.LatchTasks.LookMay, Look.{look_plan, looking}}
use Rattle.shm_pool.proofs.Named.{called_as, called_dead, may_as, reach_small}
use Rattle.shm_pool.proofs.token.Client.look.Goals as goal

pub new-requires-clause-block : goal.new-requires-clause-block
new-requires-clause-block c = reach_small c.args.self.now c.in-Some.me c.alive.ensures.stood c.requires.between c.in-Some.ensures.alive c.args.block c.requires.reached

pub run_plan-requires-clause-may : goal.run_plan-requires-clause-may
run_plan-requires-clause-may c = λ alive. may_as LookMay (λ x. looking x c.args.block c.args.k) c.in-Some.ensures.alive c.new.ensures (refl, c.requires.reached alive)

pub returns : goal.returns
returns c = record { called = called_as word_control look_plan (λ x. looking x c.args.block c.args.k) c.in-Some.ensures.alive c.new.ensures c.run_plan.ensures.called }

pub returns-in_default : goal.returns-in_default
returns-in_default c = record { called = called_dead word_control look_plan _ c.args.self.now c.args.life.now.left c.in_default.ensures.stood (c.in_default.ensures.dead refl) }
