use Rattle.std.proofs.Common.{refl}
use Rattle.plans.specs.Words.{word_control}
use Rattle.shm_ref.specs.{Proved.LatchTasks.NamingMay, RootOf.{naming, naming_plan}}
use Rattle.shm_pool.proofs.Named.{called_as, called_dead, may_as}
use Rattle.shm_pool.proofs.token.Client.root_of.Goals as goal

pub run_plan-requires-clause-may : goal.run_plan-requires-clause-may
run_plan-requires-clause-may c = λ alive. may_as NamingMay (λ x. naming x c.args.k) c.in-Some.ensures.alive c.new.ensures (c.requires.root alive)

pub returns : goal.returns
returns c = record { called = called_as word_control naming_plan (λ x. naming x c.args.k) c.in-Some.ensures.alive c.new.ensures c.run_plan.ensures.called }

pub returns-in_default : goal.returns-in_default
returns-in_default c = record { called = called_dead word_control naming_plan _ c.args.self.now c.args.life.now.left c.in_default.ensures.stood (c.in_default.ensures.dead refl) }
