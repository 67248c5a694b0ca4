-- taking an item that is known as a plan: when it may begin, what is known before each call, and what is left
pub mod Control
use Rattle.std.specs.Prelude.{◌≡◌, ◌≢◌, ℕ, ◌+◌, ◌%◌, ◌^◌, ◌<◌, true, false, Result, Ok, Err, List, [], ◌∷◌, slice_index, Bool}
use Rattle.shm_words.specs.Layout.{GeometryFits}
use Rattle.shm_graph.specs.{declared.{ask.Me.Me, memo.Memo.Memo}, Asks.{Trail, IsWithin}, Events.Event, Idle.IsIdle}
use Rattle.shm_graph.specs.{MemoAfterStore.head_stored, Views.own_word, Bounds.redo_steps}
use Rattle.shm_graph.specs.declared.spot.Spot.TheVariants as spot
use Rattle.shm_graph.specs.Events as event
use Rattle.kind_parts.specs.{Conditions.IsHere, WordParts.HeadStored}
use Rattle.plans.specs.{Either.or_part, Parts.{IsHeld, Part}, Plans.Planned, Words.word_part}
use Rattle.shm_count.specs.{declared.answer.EraSpent.EraSpent, Roots.root_word, Slots.{Lost, Untouched, emptied}}
use Rattle.shm_count.specs.{Slots.Parts.down_slot_part, Tear.Memos.Knows}
use Rattle.shm_table.specs.declared.take_head.TakeHeadPoint.{TakeHeadPoint, TheVariants.{Lower, Store}}
use Rattle.shm_table.specs.{declared.take_head.TakeHeadState.TakeHeadState, Staying.{IsSpent, Keeps, Laws.KeepsRest}}
use Rattle.shm_table.specs.TakeHead.Control.{TakeHeadAnswer, TakeHeadCall, is_lower, take_head_ask, take_head_steered}

-- ---- memos

-- the memo in which item b, at place n of the queue from s, is received, and its slot is forgotten, and nothing else
abbrev pub passed_memo : ℕ → ℕ → ℕ → ℕ → Memo → Memo
passed_memo c s n b m = head_stored (emptied (spot.Slot s c (n % 8)) true b m) (spot.QueueHead s c) s (own_word m.own (spot.QueueHead s c) + 1)

-- ---- when it may begin

-- between two calls, item b is known in the slot at the own head n of the queue from another, no item of that queue waits for its head, and an own root names b
pub record MayTakeHead (me : Me) (s n b : ℕ) (r : Memo) : Type 0 where
  pub geometry : GeometryFits me.geometry
  pub who : me.who < me.geometry.clients
  pub from : s < me.geometry.clients
  pub other : s ≢ me.who
  pub idle : IsIdle me.who r
  pub holds : IsHeld me r
  pub none : slice_index r.untaken s ≡ 0
  pub place : n ≡ own_word r.own (spot.QueueHead s me.who)
  pub known : Knows r (spot.Slot s me.who (n % 8)) b
  pub some : b ≢ 0
  pub root : (k : ℕ) × (k < 16) × (root_word me.who r k ≡ b)

-- ---- on the way

-- the slot is empty, and the head isn't stored; the count of the item didn't come to 0, since a root names it
pub record IsLowered (me : Me) (s n b : ℕ) (r0 r : Memo) (tr : Trail) (es : List Event) : Type 0 where
  pub may : MayTakeHead me s n b r0
  pub small : n + 1 < 2 ^ 64
  pub here : IsHere r
  pub lost : Lost me.who (spot.Slot s me.who (n % 8)) true b 0 false r0 r
  pub told : es ≡ event.Down me.who (spot.Slot s me.who (n % 8)) b ∷ []
  pub bound : IsWithin (7 + redo_steps me.geometry.wide) tr

abbrev pub TakeHeadKnows : TakeHeadState → TakeHeadPoint → Memo → Memo → Trail → List Event → Type 0
TakeHeadKnows m Lower r0 r tr es = MayTakeHead m.me m.from m.at m.block r0 × (r ≡ r0) × (tr ≡ []) × (es ≡ [])
TakeHeadKnows m Store r0 r tr es = IsLowered m.me m.from m.at m.block r0 r tr es

-- ---- what it leaves

-- the step down, and the store of the head
abbrev pub take_head_steps : Bool → ℕ
take_head_steps wide = 8 + redo_steps wide

-- the item is received, and all else is kept; the latch, the own home, the partition, the roots and the zero-count blocks are as before
pub record HeadTaken (me : Me) (s n b : ℕ) (r0 r : Memo) (tr : Trail) (es : List Event) : Type 0 where
  pub keeps : Keeps me.who (passed_memo me.who s n b r0) r
  pub rests : KeepsRest me.who r0 r
  pub told : es ≡ event.Down me.who (spot.Slot s me.who (n % 8)) b ∷ []
  pub bound : IsWithin (take_head_steps me.geometry.wide) tr

-- the own era left no room for the step down: nothing was done, and the item waits still
pub record HeadLeft (me : Me) (r0 r : Memo) (tr : Trail) (es : List Event) (era : ℕ) : Type 0 where
  pub untouched : Untouched me.who r0 r
  pub spent : IsSpent me.who era r
  pub none : es ≡ []
  pub bound : IsWithin (take_head_steps me.geometry.wide) tr

abbrev pub TakeHeadLeaves : TakeHeadState → Memo → Memo → Trail → List Event → Result (Unit {0}) EraSpent → Type 0
TakeHeadLeaves m r0 r tr es (Ok done) = HeadTaken m.me m.from m.at m.block r0 r tr es
TakeHeadLeaves m r0 r tr es (Err e) = HeadLeft m.me r0 r tr es e.era

-- ---- the plan

abbrev pub take_head_part : TakeHeadState → TakeHeadPoint → Part TakeHeadCall TakeHeadAnswer
take_head_part m y = or_part (word_part (is_lower y) m.me (take_head_ask m) (HeadStored m.me.who m.from)) (down_slot_part (spot.Slot m.from m.me.who (m.at % 8)) true)

abbrev pub take_head_plan : Planned TakeHeadState TakeHeadCall TakeHeadAnswer (Result (Unit {0}) EraSpent)
take_head_plan =
    record {
      steered = take_head_steered;
      part = λ m. take_head_part m m.point;
      knows = λ m. TakeHeadKnows m m.point;
      leaves = TakeHeadLeaves;
    }
