use Rattle.std.proofs.{Common.{refl, ap, ◌∙◌}, lemmas.Bool.{cond-false, cond-true}}
use Rattle.std.specs.Prelude.{Ok, Err}
use Rattle.shm_graph.specs.{declared.{memo.Memo.Memo, spot.Spot.TheVariants.Root}, MemoAfterStore.lane_with}
use Rattle.shm_graph.proofs.Spots.Spotting.{same_spot_self}
use Rattle.shm_count.proofs.RootSpots.{roots_reached}
use Rattle.shm_queue.specs.{Proved.QueueTasks.receive_rests, Receive.Control.receiving}
use Rattle.shm_queue.proofs.Queues.{other_root, receive_queues}
use Rattle.shm_queue.proofs.keeping.receive_keeps.Goals as goal

pub returns-clause-number : goal.returns-clause-number
returns-clause-number c me s r0 r tr es (Ok made) h = h.look.peeked.low
returns-clause-number c me s r0 r tr es (Err f) h = tt

pub returns-clause-named : goal.returns-clause-named
returns-clause-named c me s r0 r tr es (Ok made) h =
    h.taken.received.own (Root me.who made.root) refl refl ∙ (h.look.peeked.filled.own (Root me.who made.root) refl ∙ cond-true _ _ _ (same_spot_self (Root me.who made.root)))
returns-clause-named c me s r0 r tr es (Err f) h = tt

pub returns-clause-received : goal.returns-clause-received
returns-clause-received c me s r0 r tr es (Ok made) h =
    ap (λ (x : Memo). x.received) h.taken.received.rest ∙ (λ i. lane_with (ap (λ (x : Memo). x.received) h.look.peeked.filled.rest i) s (h.item i))
returns-clause-received c me s r0 r tr es (Err f) h = tt

pub returns-clause-empty : goal.returns-clause-empty
returns-clause-empty c me s n r0 r tr es h = (h.head, h.same)

pub returns-clause-left : goal.returns-clause-left
returns-clause-left c me s r0 r tr es a h = receive_queues (receiving me s) r0 r tr es a h

pub returns-clause-dying : goal.returns-clause-dying
returns-clause-dying c me s r0 r tr es (Ok made) h = h.taken.dying ∙ ap (λ (x : Memo). x.dying) h.look.peeked.filled.rest
returns-clause-dying c me s r0 r tr es (Err f) h = tt

pub returns-clause-roots : goal.returns-clause-roots
returns-clause-roots c me s r0 r tr es (Ok made) h = λ k n. h.taken.received.own (Root me.who k) refl refl ∙ (h.look.peeked.filled.own (Root me.who k) refl ∙ cond-false _ _ _ (other_root me.who made.root k n))
returns-clause-roots c me s r0 r tr es (Err f) h = tt

pub returns-clause-reached : goal.returns-clause-reached
returns-clause-reached c me s r0 r tr es a h idle = roots_reached me.who r (receive_rests (receiving me s) r0 r tr es a idle h).op
