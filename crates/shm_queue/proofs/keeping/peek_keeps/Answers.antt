use Rattle.std.proofs.Common.{ℕ, zero, ◌%◌, refl, sym, ap, ◌∙◌, subst, arith, List}
use Rattle.std.proofs.lemmas.Bool.{cond-false, cond-true}
use Rattle.std.specs.{List.Contains, Prelude.{Ok, Err}}
use Rattle.shm_graph.specs.declared.{memo.{Memo.Memo, Stored.Stored}, spot.Spot.TheVariants.{QueueHead, Root, Slot}}
use Rattle.shm_graph.specs.Views.{own_word}
use Rattle.shm_graph.proofs.Spots.Spotting.{same_spot_self}
use Rattle.shm_count.specs.Tear.Memos.{Knows}
use Rattle.shm_count.proofs.RootSpots.{roots_reached}
use Rattle.shm_queue.specs.declared.answer.PeekFault.TheVariants.{CountFull, Empty, EraSpent, RootsFull}
use Rattle.shm_queue.specs.{Proved.QueueTasks.peek_rests, Peek.Control.peeking}
use Rattle.shm_queue.proofs.Queues.{other_root, peek_queues}
use Rattle.shm_queue.proofs.keeping.peek_keeps.Goals as goal

pub returns-clause-number : goal.returns-clause-number
returns-clause-number c me s r0 r tr es (Ok made) h = h.1.low
returns-clause-number c me s r0 r tr es (Err f) h = tt

pub returns-clause-named : goal.returns-clause-named
returns-clause-named c me s r0 r tr es (Ok made) h = h.1.filled.own (Root me.who made.root) refl ∙ cond-true _ _ _ (same_spot_self (Root me.who made.root))
returns-clause-named c me s r0 r tr es (Err f) h = tt

pub returns-clause-known : goal.returns-clause-known
returns-clause-known c me s r0 r tr es (Ok made) h =
    let first : Knows r (Slot s me.who (h.0 % 8)) made.block = subst (λ (ks : List Stored). Contains ks (record { spot = Slot s me.who (h.0 % 8); value = made.block })) (sym (ap (λ (x : Memo). x.known) h.1.filled.rest)) (zero, omega arith, refl) in
    subst (λ (n : ℕ). Knows r (Slot s me.who (n % 8)) made.block) h.1.at first
returns-clause-known c me s r0 r tr es (Err f) h = tt

pub returns-clause-head : goal.returns-clause-head
returns-clause-head c me s r0 r tr es (Ok made) h = h.1.filled.own (QueueHead s me.who) refl
returns-clause-head c me s r0 r tr es (Err (Empty n)) h = ap (λ (x : Memo). own_word x.own (QueueHead s me.who)) h.same
returns-clause-head c me s r0 r tr es (Err (EraSpent e)) h = h.2.untouched.own (QueueHead s me.who) refl
returns-clause-head c me s r0 r tr es (Err RootsFull) h = h.2.untouched.own (QueueHead s me.who) refl
returns-clause-head c me s r0 r tr es (Err (CountFull b n)) h = h.1.untouched.own (QueueHead s me.who) refl

pub returns-clause-stays : goal.returns-clause-stays
returns-clause-stays c me s r0 r tr es (Ok made) h = (ap (λ (x : Memo). x.received) h.1.filled.rest, ap (λ (x : Memo). x.dying) h.1.filled.rest)
returns-clause-stays c me s r0 r tr es (Err (Empty n)) h = (ap (λ (x : Memo). x.received) h.same, ap (λ (x : Memo). x.dying) h.same)
returns-clause-stays c me s r0 r tr es (Err (EraSpent e)) h = (ap (λ (x : Memo). x.received) h.2.untouched.rest, ap (λ (x : Memo). x.dying) h.2.untouched.rest)
returns-clause-stays c me s r0 r tr es (Err RootsFull) h = (ap (λ (x : Memo). x.received) h.2.untouched.rest, ap (λ (x : Memo). x.dying) h.2.untouched.rest)
returns-clause-stays c me s r0 r tr es (Err (CountFull b n)) h = (ap (λ (x : Memo). x.received) h.1.untouched.rest, ap (λ (x : Memo). x.dying) h.1.untouched.rest)

pub returns-clause-left : goal.returns-clause-left
returns-clause-left c me s r0 r tr es a h = peek_queues (peeking me s) r0 r tr es a h

pub returns-clause-roots : goal.returns-clause-roots
returns-clause-roots c me s r0 r tr es (Ok made) h = λ k n. h.1.filled.own (Root me.who k) refl ∙ cond-false _ _ _ (other_root me.who made.root k n)
returns-clause-roots c me s r0 r tr es (Err f) h = tt

pub returns-clause-kept : goal.returns-clause-kept
returns-clause-kept c me s r0 r tr es (Ok made) h = tt
returns-clause-kept c me s r0 r tr es (Err (Empty n)) h = λ k. ap (λ (x : Memo). own_word x.own (Root me.who k)) h.same
returns-clause-kept c me s r0 r tr es (Err (EraSpent e)) h = λ k. h.2.untouched.own (Root me.who k) refl
returns-clause-kept c me s r0 r tr es (Err RootsFull) h = λ k. h.2.untouched.own (Root me.who k) refl
returns-clause-kept c me s r0 r tr es (Err (CountFull b n)) h = λ k. h.1.untouched.own (Root me.who k) refl

pub returns-clause-reached : goal.returns-clause-reached
returns-clause-reached c me s r0 r tr es a h idle = roots_reached me.who r (peek_rests (peeking me s) r0 r tr es a idle h).op
