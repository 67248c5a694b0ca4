use Rattle.std.proofs.Common.{refl}
use Rattle.shm_queue.specs.{Drain.{Control.{drain_parts, draining}, drain_plan}, Proved.QueueTasks.DrainMay}
use Rattle.shm_pool.proofs.Named.{called_as, called_dead, may_as}
use Rattle.shm_pool.proofs.token.Client.drain.Goals as goal

pub run_plan-requires-clause-may : goal.run_plan-requires-clause-may
run_plan-requires-clause-may c = λ alive. may_as DrainMay (λ x. draining x) c.in-Some.ensures.alive c.new.ensures (refl, c.requires.untaken alive)

pub returns : goal.returns
returns c = record { called = called_as drain_parts drain_plan (λ x. draining x) c.in-Some.ensures.alive c.new.ensures c.run_plan.ensures.called }

pub returns-in_default : goal.returns-in_default
returns-in_default c = record { called = called_dead drain_parts drain_plan _ c.args.self.now c.args.life.now.left c.in_default.ensures.stood (c.in_default.ensures.dead refl) }
