-- a take as a plan: what is known before each call, and what is left
pub mod Control
use Rattle.std.specs.Prelude.{◌≡◌, ◌≢◌, ℕ, ◌+◌, ◌-◌, ◌%◌, ◌^◌, ◌<◌, ◌≤◌, ◌⊎◌, Bool, true, false, Result, Ok, Err, List, [], ◌∷◌, length, slice_index}
use Rattle.std.specs.List.{Contains, filter}
use Rattle.shm_words.specs.Layout.{GeometryFits, total_of}
use Rattle.shm_graph.specs.declared.{ask.{Ask.Ask, Me.Me}, spot.Spot.Spot, memo.{Fact.TheVariants.Counter, Memo.Memo}}
use Rattle.shm_graph.specs.{declared.memo.Op.TheVariants.Nothing, Asks.{Trail, IsWithin}}
use Rattle.shm_graph.specs.{Bounds.{tear_steps, redo_steps}, Core.core, Events.Event, Reach.learnt}
use Rattle.shm_graph.specs.{MemoAfterRead.valued, Spots.same_spot, MemoAfterStore.{head_stored, lane_with, other_than}}
use Rattle.shm_graph.specs.Views.{own_word}
use Rattle.shm_graph.specs.declared.ask.Ask.TheVariants as ask
use Rattle.shm_graph.specs.declared.spot.Spot.TheVariants as spot
use Rattle.shm_graph.specs.Events as event
use Rattle.kind_parts.specs.Conditions.{IsHere}
use Rattle.kind_parts.specs.WordParts.{CountLoaded, HeadSlotLoaded, HeadStored, IsHeadSlot, as_known}
use Rattle.plans.specs.{Either.or_part, Grown.{Grows, grown}, Parts.{IsHeld, Part}, Plans.Planned, Words.word_part}
use Rattle.shm_count.specs.{CountParts.tear_part, Lowering.StoppedAt, Roots.rest}
use Rattle.shm_count.specs.{Slots.{Lost, Sifts, Untouched, emptied}, Step.Control.IsInside}
use Rattle.shm_count.specs.{Tear.{Events.{Visit, Walks, frees}, CanTear}, Lasting.is_lasting}
use Rattle.shm_queue.specs.declared.answer.TakeFault.{TakeFault, TheVariants.{Empty, EraSpent}}
use Rattle.shm_queue.specs.declared.take.TakePoint.{TakePoint, TheVariants.{Head, Tail, Slot, Lower, Store, Tear}}
use Rattle.shm_queue.specs.{declared.take.TakeState.TakeState, QueueSteps.MayTakeAt, QueueWords.TailSeen}
use Rattle.shm_queue.specs.Refusals.{lower_part}
use Rattle.shm_queue.specs.Take.Control.{TakeCall, TakeAnswer, tail_at, head_at, slot_at, is_head, take_steered}

-- ---- when it may begin

-- no step is in progress, there is another identity to take from, and no item of that queue waits for its head
pub record MayTakeFrom (me : Me) (s : ℕ) (m : Memo) : Type 0 where
  pub geometry : GeometryFits me.geometry
  pub who : me.who < me.geometry.clients
  pub here : IsHere m
  pub idle : m.op ≡ Nothing
  pub from : s < me.geometry.clients
  pub other : s ≢ me.who
  pub none : slice_index m.untaken s ≡ 0

-- ---- memos

-- the memo once the head slot was read, in which the item is known
abbrev pub slot_memo : ℕ → ℕ → ℕ → ℕ → Memo → Memo
slot_memo c s n b m = record m { known = learnt (spot.Slot s c (n % 8)) b m.known; values = valued m.part b m.values }

-- the memo in which the item is received and its slot is forgotten, and nothing else
abbrev pub taken_memo : ℕ → ℕ → ℕ → ℕ → Memo → Memo
taken_memo c s n b m = head_stored (emptied (spot.Slot s c (n % 8)) true b (slot_memo c s n b m)) (spot.QueueHead s c) s (own_word m.own (spot.QueueHead s c) + 1)

-- ---- on the way

-- the own head was read, and nothing was done yet
pub record IsHeadRead (me : Me) (s n k : ℕ) (r0 r : Memo) (tr : Trail) (es : List Event) : Type 0 where
  pub may : MayTakeFrom me s r0
  pub same : core r ≡ core r0
  pub grows : Grows true r0 r
  pub head : n ≡ own_word r0.own (spot.QueueHead s me.who)
  pub none : es ≡ []
  pub bound : IsWithin k tr

-- the item was read from the head slot: it is a counted block of the pool, and what was known of that slot
pub record IsItemRead (me : Me) (s n b : ℕ) (r0 r : Memo) (tr : Trail) (es : List Event) : Type 0 where
  pub may : MayTakeFrom me s r0
  pub left : core r ≡ core (slot_memo me.who s n b r0)
  pub head : n ≡ own_word r0.own (spot.QueueHead s me.who)
  pub room : b + 2 ≤ total_of me.geometry
  pub counted : Contains r0.dying b → ⊥
  pub known : as_known (spot.Slot s me.who (n % 8)) r0 b
  pub some : (y : ℕ) × Contains r.facts (Counter (spot.Tail s me.who) y) × (n < y)
  pub grows : Grows true r0 r
  pub can : MayTakeAt me s (n % 8) b r
  pub none : es ≡ []
  pub bound : IsWithin 3 tr

-- the slot is empty, and the head isn't stored; z says whether the count of the item came to 0
pub record IsOut (me : Me) (s n b : ℕ) (z : Bool) (r0 r : Memo) (tr : Trail) (es : List Event) : Type 0 where
  pub may : MayTakeFrom me s r0
  pub head : n ≡ own_word r0.own (spot.QueueHead s me.who)
  pub small : n + 1 < 2 ^ 64
  pub room : b + 2 ≤ total_of me.geometry
  pub counted : Contains r0.dying b → ⊥
  pub known : as_known (spot.Slot s me.who (n % 8)) r0 b
  pub inside : IsInside me b
  pub here : IsHere r
  pub lost : Lost me.who (spot.Slot s me.who (n % 8)) true b 0 z (slot_memo me.who s n b r0) r
  pub told : es ≡ event.Down me.who (spot.Slot s me.who (n % 8)) b ∷ []
  pub bound : IsWithin (10 + redo_steps me.geometry.wide) tr

-- the head is stored, and the count of the item came to 0
pub record IsReceived (me : Me) (s n b : ℕ) (r0 r : Memo) (tr : Trail) (es : List Event) : Type 0 where
  pub may : MayTakeFrom me s r0
  pub head : n ≡ own_word r0.own (spot.QueueHead s me.who)
  pub counted : Contains r0.dying b → ⊥
  pub known : as_known (spot.Slot s me.who (n % 8)) r0 b
  pub lost : Lost me.who spot.Spare false b 0 true (taken_memo me.who s n b r0) r
  pub held : IsHeld me r
  pub can : CanTear me b r
  pub told : es ≡ event.Down me.who (spot.Slot s me.who (n % 8)) b ∷ []
  pub bound : IsWithin (11 + redo_steps me.geometry.wide) tr

abbrev pub TakeKnows : TakeState → TakePoint → Memo → Memo → Trail → List Event → Type 0
TakeKnows m Head r0 r tr es = MayTakeFrom m.me m.from r0 × (r ≡ r0) × (tr ≡ []) × (es ≡ [])
TakeKnows m Tail r0 r tr es = IsHeadRead m.me m.from m.at 1 r0 r tr es
TakeKnows m Slot r0 r tr es = IsHeadRead m.me m.from m.at 2 r0 r tr es × IsHeadSlot m.me.geometry.clients m.me.who r m.from (m.at % 8)
TakeKnows m Lower r0 r tr es = IsItemRead m.me m.from m.at m.block r0 r tr es
TakeKnows m Store r0 r tr es = IsOut m.me m.from m.at m.block m.last r0 r tr es
TakeKnows m Tear r0 r tr es = IsReceived m.me m.from m.at m.block r0 r tr es

-- ---- what it leaves

-- Item n of the queue from s, which is b, joined what was received and waits no more: the head is the next one, and nothing else of the memo changed but what is known and has been read, the redo record and the own row, which grew, and the zero-count blocks
pub record Received (c s n b : ℕ) (m r : Memo) : Type 0 where
  pub rest : rest r ≡ rest (record m { received = lane_with m.received s b; untaken = r.untaken })
  pub op : r.op ≡ Nothing
  pub untaken : (j : ℕ) → slice_index r.untaken j ≡ slice_index m.untaken j
  pub place : n ≡ own_word m.own (spot.QueueHead s c)
  pub head : own_word r.own (spot.QueueHead s c) ≡ n + 1
  pub own : (p : Spot) → is_lasting c p ≡ true → same_spot (spot.QueueHead s c) p ≡ false → own_word r.own p ≡ own_word m.own p
  pub rows : (j : ℕ) → own_word m.own (spot.Era c j) ≤ own_word r.own (spot.Era c j)
  pub sifts : Sifts c b false (record m { known = filter (λ x. other_than (spot.Slot s c (n % 8)) x.spot) m.known }) r

-- the events of an item that is taken: the loss of the reference, and where the count came to 0 the walk over the block
pub record TakeEvents (c s n b : ℕ) (es : List Event) : Type 0 where
  pub after : List Event
  pub told : es ≡ event.Down c (spot.Slot s c (n % 8)) b ∷ after
  pub walks : (after ≡ []) ⊎ Walks c b after []

-- the item, which is what was known of its slot, is taken, with those events, and the zero-count blocks are those before
pub record TakeDone (me : Me) (s : ℕ) (r0 r : Memo) (tr : Trail) (es : List Event) : Type 0 where
  pub place : ℕ
  pub block : ℕ
  pub some : block ≢ 0
  pub known : as_known (spot.Slot s me.who (place % 8)) r0 block
  pub received : Received me.who s place block r0 r
  pub dying : r.dying ≡ r0.dying
  pub events : TakeEvents me.who s place block es
  pub bound : IsWithin (11 + redo_steps me.geometry.wide + tear_steps me.geometry.wide (frees es)) tr

-- the tail that was read is the own head: nothing was done
pub record TakeEmpty (me : Me) (s n : ℕ) (r0 r : Memo) (tr : Trail) (es : List Event) : Type 0 where
  pub same : core r ≡ core r0
  pub head : n ≡ own_word r0.own (spot.QueueHead s me.who)
  pub read : Contains r.facts (Counter (spot.Tail s me.who) n)
  pub least : (y : ℕ) → Contains r0.facts (Counter (spot.Tail s me.who) y) → y ≤ n
  pub none : es ≡ []
  pub bound : IsWithin 2 tr

-- a tail that was read is above the head, and the step down was refused: nothing was done, but that the item is known
pub record NotTaken (me : Me) (s : ℕ) (r0 r : Memo) (tr : Trail) (es : List Event) (era : ℕ) : Type 0 where
  pub place : ℕ
  pub block : ℕ
  pub at : place ≡ own_word r0.own (spot.QueueHead s me.who)
  pub some : (y : ℕ) × Contains r.facts (Counter (spot.Tail s me.who) y) × (place < y)
  pub spent : era ≡ own_word r0.own (spot.Era me.who me.who)
  pub untouched : Untouched me.who (slot_memo me.who s place block r0) r
  pub none : es ≡ []
  pub bound : IsWithin 4 tr

-- a step down of the tear-down was refused: the item is taken, these blocks are zero-count blocks still, and the own era is at least the one that was read
pub record TakeStopped (me : Me) (s : ℕ) (r0 r : Memo) (tr : Trail) (es : List Event) (era : ℕ) : Type 0 where
  pub place : ℕ
  pub block : ℕ
  pub some : block ≢ 0
  pub known : as_known (spot.Slot s me.who (place % 8)) r0 block
  pub received : Received me.who s place block r0 r
  pub after : List Event
  pub told : es ≡ event.Down me.who (spot.Slot s me.who (place % 8)) block ∷ after
  pub left : List Visit
  pub walks : Walks me.who block after left
  pub stopped : StoppedAt me r0 r era left
  pub most : era ≤ own_word r.own (spot.Era me.who me.who)
  pub bound : IsWithin (11 + redo_steps me.geometry.wide + tear_steps me.geometry.wide (frees es + length left)) tr

abbrev pub TakeRefused : TakeState → Memo → Memo → Trail → List Event → TakeFault → Type 0
TakeRefused m r0 r tr es (Empty n) = TakeEmpty m.me m.from n r0 r tr es
TakeRefused m r0 r tr es (EraSpent e) = (2 ^ 47 - 3 < e) × (NotTaken m.me m.from r0 r tr es e ⊎ TakeStopped m.me m.from r0 r tr es e)

abbrev pub TakeLeaves : TakeState → Memo → Memo → Trail → List Event → Result (Unit {0}) TakeFault → Type 0
TakeLeaves m r0 r tr es (Ok done) = TakeDone m.me m.from r0 r tr es
TakeLeaves m r0 r tr es (Err f) = TakeRefused m r0 r tr es f

-- ---- the plan

-- the word step at a point, and what holds after it
abbrev pub take_ask : TakeState → TakePoint → Ask
take_ask m Tail = ask.Load (tail_at m)
take_ask m Slot = ask.Load (slot_at m)
take_ask m Store = ask.Store (head_at m) ((m.at + 1) % 2 ^ 64)
take_ask m y = ask.Load (head_at m)

abbrev pub TakeFound : TakeState → TakePoint → Memo → ℕ → Memo → Type 0
TakeFound m Tail = TailSeen m.me.who m.from
TakeFound m Slot = HeadSlotLoaded m.me.who m.from (m.at % 8)
TakeFound m Store = HeadStored m.me.who m.from
TakeFound m y = CountLoaded m.me.who (spot.QueueHead m.from m.me.who)

abbrev pub take_part : TakeState → TakePoint → Part TakeCall TakeAnswer
take_part m y = grown (is_head y) (or_part (word_part (is_head y) m.me (take_ask m y) (TakeFound m y)) (or_part (lower_part (spot.Slot m.from m.me.who (m.at % 8))) tear_part))

abbrev pub take_plan : Planned TakeState TakeCall TakeAnswer (Result (Unit {0}) TakeFault)
take_plan =
    record {
      steered = take_steered;
      part = λ m. take_part m m.point;
      knows = λ m. TakeKnows m m.point;
      leaves = TakeLeaves;
    }
