use Rattle.std.proofs.Common.{◌<◌, refl, sym, subst}
use Rattle.shm_graph.specs.declared.ask.Me.{Me}
use Rattle.shm_queue.specs.{Proved.QueueTasks.SendMay, Send.{Control.{send_parts, sending}, send_plan}}
use Rattle.shm_pool.proofs.Named.{called_as, called_dead, may_as, reach_small}
use Rattle.shm_pool.proofs.token.Client.send.Goals as goal

pub new-requires-clause-block : goal.new-requires-clause-block
new-requires-clause-block c = reach_small c.args.self.now c.in-Some.me c.alive.ensures.stood c.requires.between c.in-Some.ensures.alive c.args.block c.requires.reached

pub new-requires-clause-to : goal.new-requires-clause-to
new-requires-clause-to c = let x = c.in-Some.ensures.alive in subst (λ (z : Me). c.args.to < z.geometry.clients) (sym x.is) ((c.requires.to x.alive).0)

pub run_plan-requires-clause-may : goal.run_plan-requires-clause-may
run_plan-requires-clause-may c = λ alive. may_as SendMay (λ x. sending x c.args.to c.args.block) c.in-Some.ensures.alive c.new.ensures (let to = c.requires.to alive in (refl, c.in-Some.ensures.alive.kind, to.0, to.1, c.requires.reached alive, c.requires.value alive, c.requires.unsent alive))

pub returns : goal.returns
returns c = record { called = called_as send_parts send_plan (λ x. sending x c.args.to c.args.block) c.in-Some.ensures.alive c.new.ensures c.run_plan.ensures.called }

pub returns-in_default : goal.returns-in_default
returns-in_default c = record { called = called_dead send_parts send_plan _ c.args.self.now c.args.life.now.left c.in_default.ensures.stood (c.in_default.ensures.dead refl) }
