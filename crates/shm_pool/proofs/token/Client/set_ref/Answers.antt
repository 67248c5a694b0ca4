use Rattle.std.proofs.Common.{refl}
use Rattle.shm_ref.specs.{Proved.RootTasks.SetMay, SetRef.{Control.{set_parts, setting}, set_plan}}
use Rattle.shm_pool.proofs.Named.{called_as, called_dead, may_as, reach_room, target_small}
use Rattle.shm_pool.proofs.token.Client.set_ref.Goals as goal

pub new-requires-clause-block : goal.new-requires-clause-block
new-requires-clause-block c = reach_room c.args.self.now c.in-Some.me c.alive.ensures.stood c.requires.between c.in-Some.ensures.alive c.args.block c.requires.reached

pub new-requires-clause-to : goal.new-requires-clause-to
new-requires-clause-to c = target_small c.args.self.now c.in-Some.me c.alive.ensures.stood c.requires.between c.in-Some.ensures.alive c.args.to c.requires.target

pub run_plan-requires-clause-may : goal.run_plan-requires-clause-may
run_plan-requires-clause-may c = λ alive. may_as SetMay (λ x. setting x c.args.block c.args.k c.args.to) c.in-Some.ensures.alive c.new.ensures (refl, c.in-Some.ensures.alive.kind, c.requires.single alive, c.requires.reached alive, c.requires.target alive)

pub returns : goal.returns
returns c = record { called = called_as set_parts set_plan (λ x. setting x c.args.block c.args.k c.args.to) c.in-Some.ensures.alive c.new.ensures c.run_plan.ensures.called }

pub returns-in_default : goal.returns-in_default
returns-in_default c = record { called = called_dead set_parts set_plan _ c.args.self.now c.args.life.now.left c.in_default.ensures.stood (c.in_default.ensures.dead refl) }
