-- a receive as a plan: what is known before each call, and what is left
pub mod Control
use Rattle.std.specs.Prelude.{◌≡◌, ℕ, ◌+◌, ◌-◌, ◌^◌, ◌<◌, ◌⊎◌, Result, Ok, Err, List, [], ◌++◌, length, ◌*◌}
use Rattle.shm_graph.specs.{declared.{ask.Me.Me, memo.Memo.Memo}, Asks.{Trail, IsWithin}}
use Rattle.shm_graph.specs.{Bounds.{tear_steps, redo_steps}, Events.Event}
use Rattle.plans.specs.{CallsPart.calls_part, Either.or_part, Grown.grown, Parts.Part, Plans.Planned}
use Rattle.shm_count.specs.{declared.answer.Made.Made, Tear.Events.frees}
use Rattle.shm_queue.specs.declared.answer.PeekFault.{PeekFault, TheVariants.EraSpent}
use Rattle.shm_queue.specs.declared.receive.ReceivePoint.{ReceivePoint, TheVariants.{Look, Item}}
use Rattle.shm_queue.specs.{declared.receive.ReceiveState.ReceiveState, Peek.Control.{peek_parts, peeking}}
use Rattle.shm_queue.specs.Peek.{MayPeekFrom, Peeked, PeekRefused, peek_plan}
use Rattle.shm_queue.specs.Receive.Control.{ReceiveCall, ReceiveAnswer, is_look, receive_steered}
use Rattle.shm_queue.specs.Take.{Control.take_parts, MayTakeFrom, NotTaken, TakeDone, TakeStopped, take_plan}

abbrev pub ReceiveKnows : ReceiveState → ReceivePoint → Memo → Memo → Trail → List Event → Type 0
ReceiveKnows m Look r0 r tr es = MayPeekFrom m.me m.from r0 × (r ≡ r0) × (tr ≡ []) × (es ≡ [])
ReceiveKnows m Item r0 r tr es = MayTakeFrom m.me m.from r × ((n : ℕ) × Peeked m.me m.from n m.block m.root r0 r tr es)

-- ---- what it leaves

-- the memo q, in which the item has a root, with the trail and the events so far and those that follow
pub record IsPeeked (me : Me) (s b k : ℕ) (r0 : Memo) (tr : Trail) (es : List Event) : Type 0 where
  pub q : Memo
  pub place : ℕ
  pub first : Trail
  pub next : Trail
  pub asked : tr ≡ first ++ next
  pub before : List Event
  pub after : List Event
  pub split : es ≡ before ++ after
  pub peeked : Peeked me s place b k r0 q first before

-- the item has root k, and then that item was taken
pub record ReceiveDone (me : Me) (s b k : ℕ) (r0 r : Memo) (tr : Trail) (es : List Event) : Type 0 where
  pub look : IsPeeked me s b k r0 tr es
  pub taken : TakeDone me s look.q r look.next look.after
  pub item : taken.block ≡ b
  pub bound : IsWithin (37 + 2 * redo_steps me.geometry.wide + tear_steps me.geometry.wide (frees es)) tr

-- the item has a root, and the take was refused
pub record ReceiveStopped (me : Me) (s : ℕ) (r0 r : Memo) (tr : Trail) (es : List Event) (era : ℕ) : Type 0 where
  pub block : ℕ
  pub root : ℕ
  pub look : IsPeeked me s block root r0 tr es
  pub spent : 2 ^ 47 - 3 < era
  pub refused : (NotTaken me s look.q r look.next look.after era × IsWithin (30 + redo_steps me.geometry.wide) tr) ⊎ ((t : TakeStopped me s look.q r look.next look.after era) × IsWithin (37 + 2 * redo_steps me.geometry.wide + tear_steps me.geometry.wide (frees es + length t.left)) tr)

abbrev pub ReceiveRefused : ReceiveState → Memo → Memo → Trail → List Event → PeekFault → Type 0
ReceiveRefused m r0 r tr es (EraSpent e) = PeekRefused (peeking m.me m.from) r0 r tr es (EraSpent e) ⊎ ReceiveStopped m.me m.from r0 r tr es e
ReceiveRefused m r0 r tr es f = PeekRefused (peeking m.me m.from) r0 r tr es f

abbrev pub ReceiveLeaves : ReceiveState → Memo → Memo → Trail → List Event → Result Made PeekFault → Type 0
ReceiveLeaves m r0 r tr es (Ok made) = ReceiveDone m.me m.from made.block made.root r0 r tr es
ReceiveLeaves m r0 r tr es (Err f) = ReceiveRefused m r0 r tr es f

-- ---- the plan

abbrev pub receive_part : ReceivePoint → Part ReceiveCall ReceiveAnswer
receive_part y = grown (is_look y) (or_part (calls_part peek_parts peek_plan) (calls_part take_parts take_plan))

abbrev pub receive_plan : Planned ReceiveState ReceiveCall ReceiveAnswer (Result Made PeekFault)
receive_plan =
    record {
      steered = receive_steered;
      part = λ m. receive_part m.point;
      knows = λ m. ReceiveKnows m m.point;
      leaves = ReceiveLeaves;
    }
