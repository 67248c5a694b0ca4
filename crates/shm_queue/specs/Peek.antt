-- a peek as a plan: what is known before each call, and what is left
pub mod Control
use Rattle.std.specs.Prelude.{◌≡◌, ◌≢◌, ℕ, ◌+◌, ◌-◌, ◌%◌, ◌^◌, ◌<◌, ◌≤◌, false, Result, Ok, Err, List, [], ◌∷◌}
use Rattle.std.specs.List.{Contains}
use Rattle.shm_graph.specs.{Bounds.redo_steps, declared.{ask.{Ask.Ask, Me.Me}, memo.Fact.TheVariants.Counter}}
use Rattle.shm_graph.specs.{declared.memo.Memo.Memo, Agents.recovers, Asks.{Trail, IsWithin}, Events.Event}
use Rattle.shm_graph.specs.Views.{own_word}
use Rattle.shm_graph.specs.declared.ask.Ask.TheVariants as ask
use Rattle.shm_graph.specs.declared.spot.Spot.TheVariants as spot
use Rattle.shm_graph.specs.Events as event
use Rattle.kind_parts.specs.WordParts.{CountLoaded, HeadSlotLoaded, IsHeadSlot}
use Rattle.plans.specs.{Either.or_part, Grown.grown, Parts.Part, Plans.Planned, Words.word_part}
use Rattle.shm_count.specs.{declared.answer.Made.Made, Roots.root_word, Slots.{Filled, Untouched}, UpRoot.MayUpRoot}
use Rattle.shm_count.specs.UpRoot.AsPart.{up_root_part}
use Rattle.shm_queue.specs.declared.answer.PeekFault.{PeekFault, TheVariants.{Empty, EraSpent, RootsFull, CountFull}}
use Rattle.shm_queue.specs.declared.peek.PeekPoint.{PeekPoint, TheVariants.{Head, Tail, Slot, Share}}
use Rattle.shm_queue.specs.declared.peek.PeekState.{PeekState}
use Rattle.shm_queue.specs.Peek.Control.{PeekCall, PeekAnswer, tail_at, head_at, slot_at, is_head, peek_steered}
use Rattle.shm_queue.specs.{QueueWords.TailSeen, Take.{MayTakeFrom, IsHeadRead, IsItemRead, TakeEmpty, slot_memo}}

-- as a take, by a client
pub record MayPeekFrom (me : Me) (s : ℕ) (m : Memo) : Type 0 where
  pub take : MayTakeFrom me s m
  pub client : recovers m ≡ false

abbrev pub PeekKnows : PeekState → PeekPoint → Memo → Memo → Trail → List Event → Type 0
PeekKnows m Head r0 r tr es = MayPeekFrom m.me m.from r0 × (r ≡ r0) × (tr ≡ []) × (es ≡ [])
PeekKnows m Tail r0 r tr es = (recovers r0 ≡ false) × IsHeadRead m.me m.from m.at 1 r0 r tr es
PeekKnows m Slot r0 r tr es = (recovers r0 ≡ false) × (IsHeadRead m.me m.from m.at 2 r0 r tr es × IsHeadSlot m.me.geometry.clients m.me.who r m.from (m.at % 8))
PeekKnows m Share r0 r tr es = IsItemRead m.me m.from m.at m.block r0 r tr es × MayUpRoot m.me m.block r

-- ---- what it leaves

-- item n of the queue from s, which is b, is known, and root k, the least empty one, names it: one step up and nothing else was done
pub record Peeked (me : Me) (s n b k : ℕ) (r0 r : Memo) (tr : Trail) (es : List Event) : Type 0 where
  pub at : n ≡ own_word r0.own (spot.QueueHead s me.who)
  pub some : (y : ℕ) × Contains r.facts (Counter (spot.Tail s me.who) y) × (n < y)
  pub low : k < 16
  pub empty : root_word me.who r0 k ≡ 0
  pub before : (j : ℕ) → j < k → root_word me.who r0 j ≢ 0
  pub filled : Filled me.who (spot.Root me.who k) b (slot_memo me.who s n b r0) r
  pub events : es ≡ event.Up me.who (spot.Root me.who k) b ∷ []
  pub bound : IsWithin (11 + redo_steps me.geometry.wide + k) tr

-- a tail that was read is above the head, and the item got no root: nothing was done, but that the item is known
pub record NotPeeked (me : Me) (s n b : ℕ) (r0 r : Memo) (tr : Trail) (es : List Event) : Type 0 where
  pub at : n ≡ own_word r0.own (spot.QueueHead s me.who)
  pub some : (y : ℕ) × Contains r.facts (Counter (spot.Tail s me.who) y) × (n < y)
  pub untouched : Untouched me.who (slot_memo me.who s n b r0) r
  pub none : es ≡ []
  pub bound : IsWithin (26 + redo_steps me.geometry.wide) tr

abbrev pub PeekRefused : PeekState → Memo → Memo → Trail → List Event → PeekFault → Type 0
PeekRefused m r0 r tr es (Empty n) = TakeEmpty m.me m.from n r0 r tr es
PeekRefused m r0 r tr es (EraSpent e) = (n : ℕ) × (b : ℕ) × NotPeeked m.me m.from n b r0 r tr es × (e ≡ own_word r0.own (spot.Era m.me.who m.me.who)) × (2 ^ 47 - 3 < e)
PeekRefused m r0 r tr es RootsFull = (n : ℕ) × (b : ℕ) × NotPeeked m.me m.from n b r0 r tr es × ((own_word r0.own (spot.Era m.me.who m.me.who) + 3 ≤ 2 ^ 47) × ((j : ℕ) → j < 16 → root_word m.me.who r0 j ≢ 0))
PeekRefused m r0 r tr es (CountFull b k) = (n : ℕ) × NotPeeked m.me m.from n b r0 r tr es × ((own_word r0.own (spot.Era m.me.who m.me.who) + 3 ≤ 2 ^ 47) × (k ≡ 1023))

abbrev pub PeekLeaves : PeekState → Memo → Memo → Trail → List Event → Result Made PeekFault → Type 0
PeekLeaves m r0 r tr es (Ok made) = (n : ℕ) × Peeked m.me m.from n made.block made.root r0 r tr es
PeekLeaves m r0 r tr es (Err f) = PeekRefused m r0 r tr es f

-- ---- the plan

-- the word step at a point, and what holds after it
abbrev pub peek_ask : PeekState → PeekPoint → Ask
peek_ask m Tail = ask.Load (tail_at m)
peek_ask m Slot = ask.Load (slot_at m)
peek_ask m y = ask.Load (head_at m)

abbrev pub PeekFound : PeekState → PeekPoint → Memo → ℕ → Memo → Type 0
PeekFound m Tail = TailSeen m.me.who m.from
PeekFound m Slot = HeadSlotLoaded m.me.who m.from (m.at % 8)
PeekFound m y = CountLoaded m.me.who (spot.QueueHead m.from m.me.who)

abbrev pub peek_part : PeekState → PeekPoint → Part PeekCall PeekAnswer
peek_part m y = grown (is_head y) (or_part (word_part (is_head y) m.me (peek_ask m y) (PeekFound m y)) up_root_part)

abbrev pub peek_plan : Planned PeekState PeekCall PeekAnswer (Result Made PeekFault)
peek_plan =
    record {
      steered = peek_steered;
      part = λ m. peek_part m m.point;
      knows = λ m. PeekKnows m m.point;
      leaves = PeekLeaves;
    }
