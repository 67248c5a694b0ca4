use Rattle.std.proofs.Common.{◌<◌, refl, sym, subst}
use Rattle.shm_graph.specs.declared.ask.Me.{Me}
use Rattle.shm_queue.specs.{Proved.QueueTasks.ReceiveMay, Receive.{Control.{receive_parts, receiving}, receive_plan}}
use Rattle.shm_pool.proofs.Named.{called_as, called_dead, may_as}
use Rattle.shm_pool.proofs.token.Client.receive.Goals as goal

pub new-requires-clause-from : goal.new-requires-clause-from
new-requires-clause-from c = let x = c.in-Some.ensures.alive in subst (λ (z : Me). c.args.from < z.geometry.clients) (sym x.is) ((c.requires.from x.alive).0)

pub run_plan-requires-clause-may : goal.run_plan-requires-clause-may
run_plan-requires-clause-may c = λ alive. may_as ReceiveMay (λ x. receiving x c.args.from) c.in-Some.ensures.alive c.new.ensures (let from = c.requires.from alive in (refl, c.in-Some.ensures.alive.kind, (from.0, from.1, c.requires.untaken alive)))

pub returns : goal.returns
returns c = record { called = called_as receive_parts receive_plan (λ x. receiving x c.args.from) c.in-Some.ensures.alive c.new.ensures c.run_plan.ensures.called }

pub returns-in_default : goal.returns-in_default
returns-in_default c = record { called = called_dead receive_parts receive_plan _ c.args.self.now c.args.life.now.left c.in_default.ensures.stood (c.in_default.ensures.dead refl) }
