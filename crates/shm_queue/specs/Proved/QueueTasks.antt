-- sends and takes of queues as operations: when they may begin between two calls
use Rattle.std.proofs.Common.{◌≡◌, ◌≢◌, ℕ, ◌<◌, ◌⊎◌, true, false, List, [], refl, sym, ap, ◌∙◌, subst, inl, inr}
use Rattle.std.specs.{Prelude.{Result, Ok, Err, slice_index}, List.Contains}
use Rattle.shm_graph.specs.{declared.{ask.Me.Me, memo.Memo.Memo, spot.Spot.TheVariants.{Hold, Root}}, Agents.recovers}
use Rattle.shm_graph.specs.{Asks.Trail, Events.Event, Held.is_loose, Idle.{IsIdle, hold_word}, Operations.IsReady}
use Rattle.shm_graph.specs.Reach.{is_reached}
use Rattle.shm_graph.proofs.Idles.{idle_core}
use Rattle.plans.specs.Tasks.{IsNew, TaskLaws}
use Rattle.shm_count.specs.declared.answer.{EraSpent.EraSpent as ASpent, Made.Made}
use Rattle.shm_count.specs.Proved.Idles.{filled_idle, untouched_idle, is_here}
use Rattle.shm_queue.specs.declared.answer.{PeekFault.PeekFault, SendFault.SendFault, TakeFault.TakeFault}
use Rattle.shm_queue.specs.declared.{drain.DrainState.DrainState, peek.PeekState.PeekState}
use Rattle.shm_queue.specs.declared.{receive.ReceiveState.ReceiveState, send.SendState.SendState}
use Rattle.shm_queue.specs.{declared.take.TakeState.TakeState, Drain.Control.{drain_parts, draining}}
use Rattle.shm_queue.specs.{Drain.{DrainKnows, DrainLeaves, Drained, drain_plan}, Peek.Control.{peek_parts, peeking}}
use Rattle.shm_queue.specs.Peek.{PeekKnows, PeekLeaves, PeekRefused, Peeked, peek_plan}
use Rattle.shm_queue.specs.Receive.Control.{receive_parts, receiving}
use Rattle.shm_queue.specs.Receive.{ReceiveKnows, ReceiveLeaves, ReceiveRefused, ReceiveStopped, receive_plan}
use Rattle.shm_queue.specs.Send.{Control.{send_parts, sending}, SendKnows, SendLeaves, Sent, send_plan}
use Rattle.shm_queue.specs.Take.Control.{take_parts, taking}
use Rattle.shm_queue.specs.Take.{MayTakeFrom, NotTaken, Received, TakeKnows, TakeLeaves, TakeStopped, slot_memo, take_plan}
use Rattle.shm_queue.specs.declared.answer.PeekFault.TheVariants as peek
use Rattle.shm_queue.specs.declared.answer.SendFault.TheVariants as send
use Rattle.shm_queue.specs.declared.answer.TakeFault.TheVariants as take

-- ---- a send

-- a client may send a block in reach, in a pool for tables a value block, to another identity for which none waits
abbrev pub SendMay : SendState → Memo → Type 0
SendMay m r = (m ≡ sending m.me m.to m.block) × (recovers r ≡ false) × (m.to < m.me.geometry.clients) × (m.me.who ≢ m.to) × (is_reached m.me.who r m.block ≡ true) × (is_loose r.part ≡ false → Contains r.values m.block) × (slice_index r.unsent m.to ≡ 0)

sent_idle : (c i b n : ℕ) (m r : Memo) → Sent c i b n m r → IsIdle c m → IsIdle c r
sent_idle c i b n m r h idle =
    record {
      live = ap (λ (x : Memo). x.status) h.rest ∙ idle.live;
      op = ap (λ (x : Memo). x.op) h.rest ∙ idle.op;
      making = ap (λ (x : Memo). x.making) h.rest ∙ idle.making;
      hold = h.own (Hold c) refl refl ∙ (idle.hold ∙ ap (λ (x : Memo). hold_word x.latch) (sym h.rest));
    }

pub send_rests : (m : SendState) (r0 r : Memo) (tr : Trail) (es : List Event) (a : Result ℕ SendFault) → IsIdle m.me.who r0 → SendLeaves m r0 r tr es a → IsIdle m.me.who r
send_rests m r0 r tr es (Ok n) idle h = sent_idle m.me.who m.to m.block n r0 r h.sent idle
send_rests m r0 r tr es (Err (send.QueueFull h n)) idle x = idle_core m.me.who r0 r x.same idle
send_rests m r0 r tr es (Err (send.EraSpent e)) idle x = untouched_idle m.me.who r0 r x.0.untouched idle
send_rests m r0 r tr es (Err (send.CountFull b n)) idle x = untouched_idle m.me.who r0 r x.0.untouched idle

pub send_task : TaskLaws send_parts send_plan SendMay (λ m a. Unit {0})
send_task =
    record {
      new = λ m r h. subst (IsNew send_parts send_plan) (sym h.0) (record { first = refl; start = refl; fresh = refl });
      begins = λ m r ready h. subst (λ (x : SendState). SendKnows m x.point r r [] []) (sym h.0) (
        record {
          geometry = ready.geometry;
          who = ready.who;
          here = is_here m.me.who r ready.idle;
          idle = ready.idle.op;
          client = h.1;
          to = h.2;
          other = h.3;
          reach = h.4;
          value = h.5;
          none = h.6;
        },
        refl,
        refl,
        refl,
      );
      rests = λ m r0 r tr es a ready h l e. send_rests m r0 r tr es a ready.idle l;
    }

-- ---- a take

-- the items of another identity may be taken, where none is taken without its head
abbrev pub IsFrom : Me → ℕ → Memo → Type 0
IsFrom me s r = (s < me.geometry.clients) × (s ≢ me.who) × (slice_index r.untaken s ≡ 0)

abbrev pub TakeMay : TakeState → Memo → Type 0
TakeMay m r = (m ≡ taking m.me m.from) × IsFrom m.me m.from r

may_take : (me : Me) (s : ℕ) (r : Memo) → IsReady me r → IsFrom me s r → MayTakeFrom me s r
may_take me s r ready h = record { geometry = ready.geometry; who = ready.who; here = is_here me.who r ready.idle; idle = ready.idle.op; from = h.0; other = h.1; none = h.2 }

-- the item at a head was read
slot_idle : (c s n b : ℕ) (m : Memo) → IsIdle c m → IsIdle c (slot_memo c s n b m)
slot_idle c s n b m idle = record { live = idle.live; op = idle.op; making = idle.making; hold = idle.hold }

received_idle : (c s n b : ℕ) (m r : Memo) → Received c s n b m r → IsIdle c m → IsIdle c r
received_idle c s n b m r h idle =
    record {
      live = ap (λ (x : Memo). x.status) h.rest ∙ idle.live;
      op = h.op;
      making = ap (λ (x : Memo). x.making) h.rest ∙ idle.making;
      hold = h.own (Hold c) refl refl ∙ (idle.hold ∙ ap (λ (x : Memo). hold_word x.latch) (sym h.rest));
    }

refused_idle : (me : Me) (s : ℕ) (r0 r : Memo) (tr : Trail) (es : List Event) (e : ℕ) → IsIdle me.who r0 → NotTaken me s r0 r tr es e ⊎ TakeStopped me s r0 r tr es e → IsIdle me.who r
refused_idle me s r0 r tr es e idle (inl h) = untouched_idle me.who (slot_memo me.who s h.place h.block r0) r h.untouched (slot_idle me.who s h.place h.block r0 idle)
refused_idle me s r0 r tr es e idle (inr h) = received_idle me.who s h.place h.block r0 r h.received idle

pub take_rests : (me : Me) (s : ℕ) (r0 r : Memo) (tr : Trail) (es : List Event) (a : Result (Unit {0}) TakeFault) → IsIdle me.who r0 → TakeLeaves (taking me s) r0 r tr es a → IsIdle me.who r
take_rests me s r0 r tr es (Ok done) idle h = received_idle me.who s h.place h.block r0 r h.received idle
take_rests me s r0 r tr es (Err (take.Empty n)) idle h = idle_core me.who r0 r h.same idle
take_rests me s r0 r tr es (Err (take.EraSpent e)) idle h = refused_idle me s r0 r tr es e idle h.1

pub take_task : TaskLaws take_parts take_plan TakeMay (λ m a. Unit {0})
take_task =
    record {
      new = λ m r h. subst (IsNew take_parts take_plan) (sym h.0) (record { first = refl; start = refl; fresh = refl });
      begins = λ m r ready h. subst (λ (x : TakeState). TakeKnows m x.point r r [] []) (sym h.0) (may_take m.me m.from r ready h.1, refl, refl, refl);
      rests = λ m r0 r tr es a ready h l e. take_rests m.me m.from r0 r tr es a ready.idle l;
    }

-- ---- a peek and a receive

-- a client may look at what waits
abbrev pub PeekMay : PeekState → Memo → Type 0
PeekMay m r = (m ≡ peeking m.me m.from) × (recovers r ≡ false) × IsFrom m.me m.from r

peeked_idle : (me : Me) (s n b k : ℕ) (r0 r : Memo) (tr : Trail) (es : List Event) → IsIdle me.who r0 → Peeked me s n b k r0 r tr es → IsIdle me.who r
peeked_idle me s n b k r0 r tr es idle h = filled_idle me.who (Root me.who k) b (slot_memo me.who s n b r0) r h.filled (slot_idle me.who s n b r0 idle)

peek_refused_idle : (m : PeekState) (r0 r : Memo) (tr : Trail) (es : List Event) (f : PeekFault) → IsIdle m.me.who r0 → PeekRefused m r0 r tr es f → IsIdle m.me.who r
peek_refused_idle m r0 r tr es (peek.Empty n) idle h = idle_core m.me.who r0 r h.same idle
peek_refused_idle m r0 r tr es (peek.EraSpent e) idle h = untouched_idle m.me.who (slot_memo m.me.who m.from h.0 h.1 r0) r h.2.untouched (slot_idle m.me.who m.from h.0 h.1 r0 idle)
peek_refused_idle m r0 r tr es peek.RootsFull idle h = untouched_idle m.me.who (slot_memo m.me.who m.from h.0 h.1 r0) r h.2.untouched (slot_idle m.me.who m.from h.0 h.1 r0 idle)
peek_refused_idle m r0 r tr es (peek.CountFull b k) idle h = untouched_idle m.me.who (slot_memo m.me.who m.from h.0 b r0) r h.1.untouched (slot_idle m.me.who m.from h.0 b r0 idle)

pub peek_rests : (m : PeekState) (r0 r : Memo) (tr : Trail) (es : List Event) (a : Result Made PeekFault) → IsIdle m.me.who r0 → PeekLeaves m r0 r tr es a → IsIdle m.me.who r
peek_rests m r0 r tr es (Ok made) idle h = peeked_idle m.me m.from h.0 made.block made.root r0 r tr es idle h.1
peek_rests m r0 r tr es (Err f) idle h = peek_refused_idle m r0 r tr es f idle h

pub peek_task : TaskLaws peek_parts peek_plan PeekMay (λ m a. Unit {0})
peek_task =
    record {
      new = λ m r h. subst (IsNew peek_parts peek_plan) (sym h.0) (record { first = refl; start = refl; fresh = refl });
      begins = λ m r ready h. subst (λ (x : PeekState). PeekKnows m x.point r r [] []) (sym h.0) (record { take = may_take m.me m.from r ready h.2; client = h.1 }, refl, refl, refl);
      rests = λ m r0 r tr es a ready h l e. peek_rests m r0 r tr es a ready.idle l;
    }

-- and receive it
abbrev pub ReceiveMay : ReceiveState → Memo → Type 0
ReceiveMay m r = (m ≡ receiving m.me m.from) × (recovers r ≡ false) × IsFrom m.me m.from r

pub receive_rests : (m : ReceiveState) (r0 r : Memo) (tr : Trail) (es : List Event) (a : Result Made PeekFault) → IsIdle m.me.who r0 → ReceiveLeaves m r0 r tr es a → IsIdle m.me.who r
receive_rests m r0 r tr es (Ok made) idle h =
    received_idle m.me.who m.from h.taken.place h.taken.block h.look.q r h.taken.received (peeked_idle m.me m.from h.look.place made.block made.root r0 h.look.q h.look.first h.look.before idle h.look.peeked)
receive_rests m r0 r tr es (Err f) idle h = by f h
  where
    stopped : (e : ℕ) → ReceiveStopped m.me m.from r0 r tr es e → IsIdle m.me.who r
    stopped e x =
        let q = peeked_idle m.me m.from x.look.place x.block x.root r0 x.look.q x.look.first x.look.before idle x.look.peeked in
        elim x.refused [ inl y ↦ refused_idle m.me m.from x.look.q r x.look.next x.look.after e q (inl y.0) | inr y ↦ refused_idle m.me m.from x.look.q r x.look.next x.look.after e q (inr y.0) ]

    by : (f2 : PeekFault) → ReceiveRefused m r0 r tr es f2 → IsIdle m.me.who r
    by (peek.Empty n) x = peek_refused_idle (peeking m.me m.from) r0 r tr es (peek.Empty n) idle x
    by (peek.EraSpent e) (inl x) = peek_refused_idle (peeking m.me m.from) r0 r tr es (peek.EraSpent e) idle x
    by (peek.EraSpent e) (inr x) = stopped e x
    by peek.RootsFull x = peek_refused_idle (peeking m.me m.from) r0 r tr es peek.RootsFull idle x
    by (peek.CountFull b k) x = peek_refused_idle (peeking m.me m.from) r0 r tr es (peek.CountFull b k) idle x

pub receive_task : TaskLaws receive_parts receive_plan ReceiveMay (λ m a. Unit {0})
receive_task =
    record {
      new = λ m r h. subst (IsNew receive_parts receive_plan) (sym h.0) (record { first = refl; start = refl; fresh = refl });
      begins = λ m r ready h. subst (λ (x : ReceiveState). ReceiveKnows m x.point r r [] []) (sym h.0) (record { take = may_take m.me m.from r ready h.2; client = h.1 }, refl, refl, refl);
      rests = λ m r0 r tr es a ready h l e. receive_rests m r0 r tr es a ready.idle l;
    }

-- ---- a drain

-- all that waits may be taken, where no item is taken without its head
abbrev pub DrainMay : DrainState → Memo → Type 0
DrainMay m r = (m ≡ draining m.me) × ((s : ℕ) → slice_index r.untaken s ≡ 0)

drained_idle : (me : Me) (items : _) (m r : Memo) → Drained me items m r → IsIdle me.who m → IsIdle me.who r
drained_idle me items m r h idle =
    record {
      live = ap (λ (x : Memo). x.status) h.rest ∙ idle.live;
      op = h.op;
      making = ap (λ (x : Memo). x.making) h.rest ∙ idle.making;
      hold = h.own (Hold me.who) refl (λ s. refl) ∙ (idle.hold ∙ ap (λ (x : Memo). hold_word x.latch) (sym h.rest));
    }

pub drain_rests : (m : DrainState) (r0 r : Memo) (tr : Trail) (es : List Event) (a : Result ℕ ASpent) → IsIdle m.me.who r0 → DrainLeaves m r0 r tr es a → IsIdle m.me.who r
drain_rests m r0 r tr es (Ok n) idle h = drained_idle m.me h.items r0 r h.drained idle
drain_rests m r0 r tr es (Err e) idle h =
    let q = drained_idle m.me h.items r0 h.q h.drained idle in
    elim h.refused [ inl y ↦ refused_idle m.me h.from h.q r h.last h.after e.era q (inl y.0) | inr y ↦ refused_idle m.me h.from h.q r h.last h.after e.era q (inr y.0) ]

pub drain_task : TaskLaws drain_parts drain_plan DrainMay (λ m a. Unit {0})
drain_task =
    record {
      new = λ m r h. subst (IsNew drain_parts drain_plan) (sym h.0) (record { first = refl; start = refl; fresh = refl });
      begins = λ m r ready h. subst (λ (x : DrainState). DrainKnows x x.point r r [] []) (sym h.0)
          (record { geometry = ready.geometry; who = ready.who; here = is_here m.me.who r ready.idle; idle = ready.idle.op; none = h.1 }, refl, refl, refl, refl);
      rests = λ m r0 r tr es a ready h l e. drain_rests m r0 r tr es a ready.idle l;
    }
