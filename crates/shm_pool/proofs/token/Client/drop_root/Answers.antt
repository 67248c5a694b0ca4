use Rattle.std.proofs.Common.{refl}
use Rattle.shm_ref.specs.{DropRoot.{Control.{drop_parts, dropping}, drop_plan}, Proved.RootTasks.DropMay}
use Rattle.shm_pool.proofs.Named.{called_as, called_dead, may_as}
use Rattle.shm_pool.proofs.token.Client.drop_root.Goals as goal

pub run_plan-requires-clause-may : goal.run_plan-requires-clause-may
run_plan-requires-clause-may c = λ alive. may_as DropMay (λ x. dropping x c.args.k) c.in-Some.ensures.alive c.new.ensures (refl, c.requires.root alive)

pub returns : goal.returns
returns c = record { called = called_as drop_parts drop_plan (λ x. dropping x c.args.k) c.in-Some.ensures.alive c.new.ensures c.run_plan.ensures.called }

pub returns-in_default : goal.returns-in_default
returns-in_default c = record { called = called_dead drop_parts drop_plan _ c.args.self.now c.args.life.now.left c.in_default.ensures.stood (c.in_default.ensures.dead refl) }
