use Rattle.std.proofs.Common.{refl, ◌∙◌, inl, inr}
use Rattle.std.specs.Prelude.{Ok, Err}
use Rattle.shm_graph.specs.declared.spot.Spot.TheVariants.{Root}
use Rattle.shm_count.proofs.RootSpots.{roots_reached}
use Rattle.shm_queue.specs.{Proved.QueueTasks.drain_rests, Drain.Control.draining}
use Rattle.shm_queue.proofs.Queues.{drain_queues}
use Rattle.shm_queue.proofs.keeping.drain_keeps.Goals as goal

pub returns-clause-received : goal.returns-clause-received
returns-clause-received c me r0 r tr es (Ok n) h = (h.items, h.count, h.drained.received)
returns-clause-received c me r0 r tr es (Err e) h = tt

pub returns-clause-left : goal.returns-clause-left
returns-clause-left c me r0 r tr es a h = drain_queues (draining me) r0 r tr es a h

pub returns-clause-dying : goal.returns-clause-dying
returns-clause-dying c me r0 r tr es (Ok n) h = h.drained.dying
returns-clause-dying c me r0 r tr es (Err e) h = tt

pub returns-clause-roots : goal.returns-clause-roots
returns-clause-roots c me r0 r tr es (Ok n) h k = h.drained.own (Root me.who k) refl (λ s. refl)
returns-clause-roots c me r0 r tr es (Err e) h k =
    elim h.refused [
      | inl n ↦ n.0.untouched.own (Root me.who k) refl
      | inr t ↦ t.0.received.own (Root me.who k) refl refl
    ]
    ∙ h.drained.own (Root me.who k) refl (λ s. refl)

pub returns-clause-reached : goal.returns-clause-reached
returns-clause-reached c me r0 r tr es a h idle = roots_reached me.who r (drain_rests (draining me) r0 r tr es a idle h).op
