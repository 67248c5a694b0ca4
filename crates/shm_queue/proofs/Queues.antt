-- what machines over queues leave of the latch, of what waits in queues, and of whether the pool is for tables
use Rattle.std.proofs.Common.{◌≡◌, ◌≢◌, ℕ, ◌==◌, sym, ap, ◌∙◌, false, List, inl, inr, ◌⊎◌, Result}
use Rattle.std.proofs.lemmas.Bool.{and_right, ne_eqb}
use Rattle.std.specs.Prelude.{Ok, Err, slice_index}
use Rattle.shm_graph.specs.{declared.{ask.Me.Me, memo.Memo.Memo, spot.Spot.TheVariants.Root}, Asks.Trail, Events.Event}
use Rattle.shm_graph.specs.{Held.is_loose, Spots.same_spot, MemoAfterStore.lane_with}
use Rattle.kind_parts.specs.Reparting.{sight}
use Rattle.shm_count.specs.{declared.answer.{EraSpent.EraSpent as ASpent, Made.Made}, Roots.rest, Slots.Untouched}
use Rattle.shm_count.specs.Waiting.{LeavesQueues}
use Rattle.shm_count.proofs.Waiting.{own_queues, queues_then, root_part, same_queues}
use Rattle.shm_queue.specs.declared.answer.{PeekFault.PeekFault, SendFault.SendFault, TakeFault.TakeFault}
use Rattle.shm_queue.specs.declared.{drain.DrainState.DrainState, peek.PeekState.PeekState}
use Rattle.shm_queue.specs.declared.{receive.ReceiveState.ReceiveState, send.SendState.SendState}
use Rattle.shm_queue.specs.{declared.take.TakeState.TakeState, Drain.{DrainLeaves, Drained, TakenItem}}
use Rattle.shm_queue.specs.Peek.{Control.peeking, PeekLeaves, PeekRefused, Peeked}
use Rattle.shm_queue.specs.{Receive.{ReceiveLeaves, ReceiveRefused, ReceiveStopped}, Send.{SendLeaves, Sent}}
use Rattle.shm_queue.specs.Take.{NotTaken, Received, TakeLeaves, TakeStopped, slot_memo}
use Rattle.shm_queue.specs.declared.answer.PeekFault.TheVariants as peek
use Rattle.shm_queue.specs.declared.answer.SendFault.TheVariants as send
use Rattle.shm_queue.specs.declared.answer.TakeFault.TheVariants as take

-- another own root
pub other_root : (c k j : ℕ) → j ≢ k → same_spot (Root c k) (Root c j) ≡ false
other_root c k j n = and_right (c == c) (k == j) (ne_eqb k j (λ e. n (sym e)))

-- ---- items

-- a block was sent
sent_queues : (c i b n : ℕ) (m r : Memo) → Sent c i b n m r → LeavesQueues m r
sent_queues c i b n m r h =
    record {
      latch = ap (λ (x : Memo). x.latch) h.rest;
      unsent = h.unsent;
      untaken = λ j. ap (λ (x : Memo). slice_index x.untaken j) h.rest;
      loose = ap (λ (x : Memo). is_loose x.part) h.rest;
    }

-- nothing was stored that lasts but what was received
lanes_queues : (xs : List (List ℕ)) (m r : Memo) → rest r ≡ rest (record m { received = xs; untaken = r.untaken }) → ((j : ℕ) → slice_index r.untaken j ≡ slice_index m.untaken j) → LeavesQueues m r
lanes_queues xs m r h untaken =
    record {
      latch = ap (λ (x : Memo). x.latch) h;
      unsent = λ j. ap (λ (x : Memo). slice_index x.unsent j) h;
      untaken = untaken;
      loose = ap (λ (x : Memo). is_loose x.part) h;
    }

received_queues : (c s n b : ℕ) (m r : Memo) → Received c s n b m r → LeavesQueues m r
received_queues c s n b m r h = lanes_queues (lane_with m.received s b) m r h.rest h.untaken

drained_queues : (me : Me) (xs : List TakenItem) (m r : Memo) → Drained me xs m r → LeavesQueues m r
drained_queues me xs m r h = lanes_queues r.received m r h.rest h.untaken

-- the item is known, and nothing else was done
known_queues : (c s n b : ℕ) (m r : Memo) → Untouched c (slot_memo c s n b m) r → LeavesQueues m r
known_queues c s n b m r u =
    let x = own_queues (slot_memo c s n b m) r u.rest in
    record { latch = x.latch; unsent = x.unsent; untaken = x.untaken; loose = x.loose }

-- a root came to name the item that was read
peeked_queues : (me : Me) (s n b k : ℕ) (m r : Memo) (tr : Trail) (es : List Event) → Peeked me s n b k m r tr es → LeavesQueues m r
peeked_queues me s n b k m r tr es p =
    let h = p.filled.rest in
    record {
      latch = ap (λ (x : Memo). x.latch) h;
      unsent = λ j. ap (λ (x : Memo). slice_index x.unsent j) h;
      untaken = λ j. ap (λ (x : Memo). slice_index x.untaken j) h;
      loose = ap (λ (x : Memo). is_loose x.part) h ∙ ap is_loose (root_part me.who (sight me.who (slot_memo me.who s n b m)) k b);
    }

-- a take was refused for want of eras
refused_queues : (me : Me) (s : ℕ) (m r : Memo) (tr : Trail) (es : List Event) (e : ℕ) → NotTaken me s m r tr es e ⊎ TakeStopped me s m r tr es e → LeavesQueues m r
refused_queues me s m r tr es e (inl h) = known_queues me.who s h.place h.block m r h.untouched
refused_queues me s m r tr es e (inr h) = received_queues me.who s h.place h.block m r h.received

-- ---- answers

pub send_queues : (m : SendState) (r0 r : Memo) (tr : Trail) (es : List Event) (a : Result ℕ SendFault) → SendLeaves m r0 r tr es a → LeavesQueues r0 r
send_queues m r0 r tr es (Ok n) h = sent_queues m.me.who m.to m.block n r0 r h.sent
send_queues m r0 r tr es (Err (send.QueueFull w n)) h = same_queues r0 r h.same
send_queues m r0 r tr es (Err (send.EraSpent e)) h = own_queues r0 r h.0.untouched.rest
send_queues m r0 r tr es (Err (send.CountFull b n)) h = own_queues r0 r h.0.untouched.rest

pub take_queues : (m : TakeState) (r0 r : Memo) (tr : Trail) (es : List Event) (a : Result (Unit {0}) TakeFault) → TakeLeaves m r0 r tr es a → LeavesQueues r0 r
take_queues m r0 r tr es (Ok u) h = received_queues m.me.who m.from h.place h.block r0 r h.received
take_queues m r0 r tr es (Err (take.Empty n)) h = same_queues r0 r h.same
take_queues m r0 r tr es (Err (take.EraSpent e)) h = refused_queues m.me m.from r0 r tr es e h.1

peek_refused_queues : (m : PeekState) (r0 r : Memo) (tr : Trail) (es : List Event) (f : PeekFault) → PeekRefused m r0 r tr es f → LeavesQueues r0 r
peek_refused_queues m r0 r tr es (peek.Empty n) h = same_queues r0 r h.same
peek_refused_queues m r0 r tr es (peek.EraSpent e) h = known_queues m.me.who m.from h.0 h.1 r0 r h.2.untouched
peek_refused_queues m r0 r tr es peek.RootsFull h = known_queues m.me.who m.from h.0 h.1 r0 r h.2.untouched
peek_refused_queues m r0 r tr es (peek.CountFull b k) h = known_queues m.me.who m.from h.0 b r0 r h.1.untouched

pub peek_queues : (m : PeekState) (r0 r : Memo) (tr : Trail) (es : List Event) (a : Result Made PeekFault) → PeekLeaves m r0 r tr es a → LeavesQueues r0 r
peek_queues m r0 r tr es (Ok made) h = peeked_queues m.me m.from h.0 made.block made.root r0 r tr es h.1
peek_queues m r0 r tr es (Err f) h = peek_refused_queues m r0 r tr es f h

-- the item has a root, and its take was refused
stopped_queues : (me : Me) (s : ℕ) (r0 r : Memo) (tr : Trail) (es : List Event) (e : ℕ) → ReceiveStopped me s r0 r tr es e → LeavesQueues r0 r
stopped_queues me s r0 r tr es e h =
    queues_then r0 h.look.q r (peeked_queues me s h.look.place h.block h.root r0 h.look.q h.look.first h.look.before h.look.peeked)
    (elim h.refused [ inl x ↦ refused_queues me s h.look.q r h.look.next h.look.after e (inl x.0) | inr x ↦ refused_queues me s h.look.q r h.look.next h.look.after e (inr x.0) ])

receive_refused_queues : (m : ReceiveState) (r0 r : Memo) (tr : Trail) (es : List Event) (f : PeekFault) → ReceiveRefused m r0 r tr es f → LeavesQueues r0 r
receive_refused_queues m r0 r tr es (peek.Empty n) h = peek_refused_queues (peeking m.me m.from) r0 r tr es (peek.Empty n) h
receive_refused_queues m r0 r tr es (peek.EraSpent e) (inl h) = peek_refused_queues (peeking m.me m.from) r0 r tr es (peek.EraSpent e) h
receive_refused_queues m r0 r tr es (peek.EraSpent e) (inr h) = stopped_queues m.me m.from r0 r tr es e h
receive_refused_queues m r0 r tr es peek.RootsFull h = peek_refused_queues (peeking m.me m.from) r0 r tr es peek.RootsFull h
receive_refused_queues m r0 r tr es (peek.CountFull b k) h = peek_refused_queues (peeking m.me m.from) r0 r tr es (peek.CountFull b k) h

pub receive_queues : (m : ReceiveState) (r0 r : Memo) (tr : Trail) (es : List Event) (a : Result Made PeekFault) → ReceiveLeaves m r0 r tr es a → LeavesQueues r0 r
receive_queues m r0 r tr es (Ok made) h =
    queues_then r0 h.look.q r (peeked_queues m.me m.from h.look.place made.block made.root r0 h.look.q h.look.first h.look.before h.look.peeked)
    (received_queues m.me.who m.from h.taken.place h.taken.block h.look.q r h.taken.received)
receive_queues m r0 r tr es (Err f) h = receive_refused_queues m r0 r tr es f h

pub drain_queues : (m : DrainState) (r0 r : Memo) (tr : Trail) (es : List Event) (a : Result ℕ ASpent) → DrainLeaves m r0 r tr es a → LeavesQueues r0 r
drain_queues m r0 r tr es (Ok n) h = drained_queues m.me h.items r0 r h.drained
drain_queues m r0 r tr es (Err e) h =
    queues_then r0 h.q r (drained_queues m.me h.items r0 h.q h.drained)
    (elim h.refused [ inl x ↦ refused_queues m.me h.from h.q r h.last h.after e.era (inl x.0) | inr x ↦ refused_queues m.me h.from h.q r h.last h.after e.era (inr x.0) ])
