use Rattle.std.proofs.Common.{ℕ, ◌+◌, refl, ap, ◌∙◌, inl, inr}
use Rattle.std.specs.Prelude.{Ok, Err}
use Rattle.shm_graph.specs.{declared.{memo.Memo.Memo, spot.Spot.TheVariants.Root}, Views.own_word}
use Rattle.shm_count.proofs.RootSpots.{roots_reached}
use Rattle.shm_queue.specs.{declared.answer.TakeFault.TheVariants.{Empty, EraSpent}, Proved.QueueTasks.take_rests}
use Rattle.shm_queue.specs.Take.Control.{taking}
use Rattle.shm_queue.proofs.Queues.{take_queues}
use Rattle.shm_queue.proofs.keeping.take_keeps.Goals as goal

pub returns-clause-taken : goal.returns-clause-taken
returns-clause-taken c me s r0 r tr es (Ok u) h = (h.block, ap (λ (x : Memo). x.received) h.received.rest)
returns-clause-taken c me s r0 r tr es (Err f) h = tt

pub returns-clause-head : goal.returns-clause-head
returns-clause-head c me s r0 r tr es (Ok u) h = h.received.head ∙ ap (λ (n : ℕ). n + 1) h.received.place
returns-clause-head c me s r0 r tr es (Err f) h = tt

pub returns-clause-spent : goal.returns-clause-spent
returns-clause-spent c me s e r0 r tr es h =
    elim h.1 [
      | inl n ↦ inl (ap (λ (x : Memo). x.received) n.untouched.rest, ap (λ (x : Memo). x.dying) n.untouched.rest)
      | inr t ↦ inr (t.block, ap (λ (x : Memo). x.received) t.received.rest)
    ]

pub returns-clause-left : goal.returns-clause-left
returns-clause-left c me s r0 r tr es a h = take_queues (taking me s) r0 r tr es a h

pub returns-clause-dying : goal.returns-clause-dying
returns-clause-dying c me s r0 r tr es (Ok u) h = h.dying
returns-clause-dying c me s r0 r tr es (Err f) h = tt

pub returns-clause-roots : goal.returns-clause-roots
returns-clause-roots c me s r0 r tr es (Ok u) h k = h.received.own (Root me.who k) refl refl
returns-clause-roots c me s r0 r tr es (Err (Empty n)) h k = ap (λ (x : Memo). own_word x.own (Root me.who k)) h.same
returns-clause-roots c me s r0 r tr es (Err (EraSpent e)) h k = elim h.1 [ inl n ↦ n.untouched.own (Root me.who k) refl | inr t ↦ t.received.own (Root me.who k) refl refl ]

pub returns-clause-reached : goal.returns-clause-reached
returns-clause-reached c me s r0 r tr es a h idle = roots_reached me.who r (take_rests me s r0 r tr es a idle h).op
