-- a send as a plan: what is known before each call, and what is left
pub mod Control
use Rattle.std.specs.Prelude.{◌≡◌, ◌≢◌, ℕ, ◌+◌, ◌-◌, ◌%◌, ◌^◌, ◌<◌, ◌≤◌, true, false, Result, Ok, Err, List, [], ◌∷◌, slice_index}
use Rattle.std.specs.List.{Contains}
use Rattle.shm_graph.specs.{Bounds.redo_steps, declared.{ask.{Ask.Ask, Me.Me}, spot.Spot.Spot, memo.Memo.Memo}}
use Rattle.shm_graph.specs.{declared.memo.Op.TheVariants.Nothing, Agents.recovers, Asks.{Trail, IsWithin}, Core.core}
use Rattle.shm_graph.specs.{Events.Event, Held.is_loose, Reach.is_reached, Spots.same_spot, MemoAfterStore.lane_with}
use Rattle.shm_graph.specs.Views.{own_word}
use Rattle.shm_graph.specs.declared.ask.Ask.TheVariants as ask
use Rattle.shm_graph.specs.declared.spot.Spot.TheVariants as spot
use Rattle.shm_graph.specs.Events as event
use Rattle.shm_words.specs.Layout.{GeometryFits}
use Rattle.kind_parts.specs.{Conditions.IsHere, WordParts.{CountLoaded, TailStored}}
use Rattle.plans.specs.{Either.or_part, Parts.Part, Plans.Planned, Words.word_part}
use Rattle.shm_count.specs.{Slots.{Filled, Untouched, Parts.up_slot_part}, Lasting.is_lasting}
use Rattle.shm_queue.specs.declared.answer.SendFault.{SendFault, TheVariants.{QueueFull, EraSpent, CountFull}}
use Rattle.shm_queue.specs.declared.send.SendPoint.{SendPoint, TheVariants.{Tail, Head, Up, Store}}
use Rattle.shm_queue.specs.{declared.send.SendState.SendState, QueueSteps.MayPutAt, QueueWords.HeadSeen}
use Rattle.shm_queue.specs.Send.Control.{SendCall, SendAnswer, tail_at, head_at, is_tail, send_steered}

-- ---- when it may begin

-- a client with no step in progress, another identity to send to, a block in reach, a value block in a pool for tables, and no block that waits in that queue for its tail
pub record MaySendTo (me : Me) (i b : ℕ) (m : Memo) : Type 0 where
  pub geometry : GeometryFits me.geometry
  pub who : me.who < me.geometry.clients
  pub here : IsHere m
  pub idle : m.op ≡ Nothing
  pub client : recovers m ≡ false
  pub to : i < me.geometry.clients
  pub other : me.who ≢ i
  pub reach : is_reached me.who m b ≡ true
  pub value : is_loose m.part ≡ false → Contains m.values b
  pub none : slice_index m.unsent i ≡ 0

-- ---- on the way

-- the own tail was read, nothing was done yet, and the block is one of the pool
pub record IsTailRead (me : Me) (i b n : ℕ) (k : ℕ) (r0 r : Memo) (tr : Trail) (es : List Event) : Type 0 where
  pub may : MaySendTo me i b r0
  pub same : core r ≡ core r0
  pub agent : recovers r ≡ recovers r0
  pub tail : n ≡ own_word r0.own (spot.Tail me.who i)
  pub none : es ≡ []
  pub bound : IsWithin k tr

-- the slot names the block, and the tail isn't stored
pub record IsPut (me : Me) (i b n : ℕ) (r0 r : Memo) (tr : Trail) (es : List Event) : Type 0 where
  pub may : MaySendTo me i b r0
  pub tail : n ≡ own_word r0.own (spot.Tail me.who i)
  pub small : n + 1 < 2 ^ 64
  pub some : b ≢ 0
  pub filled : Filled me.who (spot.Slot me.who i (n % 8)) b r0 r
  pub told : es ≡ event.Up me.who (spot.Slot me.who i (n % 8)) b ∷ []
  pub bound : IsWithin (9 + redo_steps me.geometry.wide) tr

abbrev pub SendKnows : SendState → SendPoint → Memo → Memo → Trail → List Event → Type 0
SendKnows m Tail r0 r tr es = MaySendTo m.me m.to m.block r0 × (r ≡ r0) × (tr ≡ []) × (es ≡ [])
SendKnows m Head r0 r tr es = IsTailRead m.me m.to m.block m.tail 1 r0 r tr es
SendKnows m Up r0 r tr es = IsTailRead m.me m.to m.block m.tail 2 r0 r tr es × MayPutAt m.me m.to (m.tail % 8) m.block r
SendKnows m Store r0 r tr es = IsPut m.me m.to m.block m.tail r0 r tr es

-- ---- what it leaves

-- Block b joined what was sent to i as item n, and waits no more: the tail is the next one, the own era too, and nothing else of the memo changed but the redo record and rows, which grew
pub record Sent (c i b n : ℕ) (m r : Memo) : Type 0 where
  pub rest : core r ≡ core (record m { own = r.own; sent = lane_with m.sent i b; unsent = r.unsent })
  pub unsent : (j : ℕ) → slice_index r.unsent j ≡ slice_index m.unsent j
  pub place : n ≡ own_word m.own (spot.Tail c i)
  pub tail : own_word r.own (spot.Tail c i) ≡ n + 1
  pub own : (p : Spot) → is_lasting c p ≡ true → same_spot (spot.Tail c i) p ≡ false → own_word r.own p ≡ own_word m.own p
  pub era : own_word r.own (spot.Era c c) ≡ own_word m.own (spot.Era c c) + 1
  pub rows : (j : ℕ) → own_word m.own (spot.Era c j) ≤ own_word r.own (spot.Era c j)

-- so it was sent, with that event
pub record SendDone (me : Me) (i b n : ℕ) (r0 r : Memo) (tr : Trail) (es : List Event) : Type 0 where
  pub sent : Sent me.who i b n r0 r
  pub told : es ≡ event.Up me.who (spot.Slot me.who i (n % 8)) b ∷ []
  pub bound : IsWithin (10 + redo_steps me.geometry.wide) tr

-- the own tail that was read is 8 above the head that was read
pub record SendFull (me : Me) (i h n : ℕ) (r0 r : Memo) (tr : Trail) (es : List Event) : Type 0 where
  pub same : core r ≡ core r0
  pub tail : n ≡ own_word r0.own (spot.Tail me.who i)
  pub full : n ≡ h + 8
  pub none : es ≡ []
  pub bound : IsWithin 2 tr

-- the step up was refused: nothing of the memo changed but the redo record and rows, which grew
pub record NotSent (me : Me) (r0 r : Memo) (tr : Trail) (es : List Event) : Type 0 where
  pub untouched : Untouched me.who r0 r
  pub none : es ≡ []
  pub bound : IsWithin (9 + redo_steps me.geometry.wide) tr

abbrev pub SendRefused : SendState → Memo → Memo → Trail → List Event → SendFault → Type 0
SendRefused m r0 r tr es (QueueFull h n) = SendFull m.me m.to h n r0 r tr es
SendRefused m r0 r tr es (EraSpent e) = NotSent m.me r0 r tr es × (e ≡ own_word r0.own (spot.Era m.me.who m.me.who)) × (2 ^ 47 - 3 < e)
SendRefused m r0 r tr es (CountFull b n) = NotSent m.me r0 r tr es × (n ≡ 1023) × (b ≡ m.block)

abbrev pub SendLeaves : SendState → Memo → Memo → Trail → List Event → Result ℕ SendFault → Type 0
SendLeaves m r0 r tr es (Ok n) = SendDone m.me m.to m.block n r0 r tr es
SendLeaves m r0 r tr es (Err f) = SendRefused m r0 r tr es f

-- ---- the plan

-- the word step at a point, and what holds after it
abbrev pub send_ask : SendState → SendPoint → Ask
send_ask m Head = ask.Load (head_at m)
send_ask m Store = ask.Store (tail_at m) ((m.tail + 1) % 2 ^ 64)
send_ask m y = ask.Load (tail_at m)

abbrev pub SendFound : SendState → SendPoint → Memo → ℕ → Memo → Type 0
SendFound m Head = HeadSeen m.me.who m.to
SendFound m Store = TailStored m.me.who m.to
SendFound m y = CountLoaded m.me.who (spot.Tail m.me.who m.to)

abbrev pub send_part : SendState → SendPoint → Part SendCall SendAnswer
send_part m y = or_part (word_part (is_tail y) m.me (send_ask m y) (SendFound m y)) (up_slot_part (spot.Slot m.me.who m.to (m.tail % 8)) false)

abbrev pub send_plan : Planned SendState SendCall SendAnswer (Result ℕ SendFault)
send_plan =
    record {
      steered = send_steered;
      part = λ m. send_part m m.point;
      knows = λ m. SendKnows m m.point;
      leaves = SendLeaves;
    }
