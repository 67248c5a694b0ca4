-- giving the value block at the head of a queue a root as a plan: what is known before each call, and what is left
pub mod Control
use Rattle.std.specs.{Prelude.{◌≡◌, ◌≢◌, ℕ, ◌+◌, ◌%◌, ◌<◌, false, List, [], ◌∷◌, Bool}, List.Contains}
use Rattle.shm_words.specs.Layout.{total_of, address_limit}
use Rattle.shm_graph.specs.{declared.{ask.Me.Me, memo.{Fact.TheVariants.Counter, Memo.Memo}}, Agents.recovers}
use Rattle.shm_graph.specs.{Asks.{Trail, IsWithin}, Bounds.up_steps, Events.Event, Held.is_loose, Idle.IsIdle}
use Rattle.shm_graph.specs.Views.{own_word}
use Rattle.shm_graph.specs.declared.spot.Spot.TheVariants as spot
use Rattle.shm_graph.specs.Events as event
use Rattle.plans.specs.{Either.or_part, Grown.grown, Parts.{IsHeld, Part}, Plans.Planned, Words.word_part}
use Rattle.kind_parts.specs.Reparting.{sight, IsValue}
use Rattle.kind_parts.specs.WordParts.{CountLoaded, HeadSlotLoaded, IsHeadSlot, WordLoaded}
use Rattle.shm_count.specs.{Roots.root_word, Tear.Memos.Knows, UpRoot.AsPart.up_root_part}
use Rattle.shm_queue.specs.{QueueWords.TailSeen, Take.{IsHeadRead, IsItemRead, MayTakeFrom, TakeEmpty}}
use Rattle.shm_table.specs.declared.{answer.PutFault.PutFault, fetch_head.FetchHeadPoint.FetchHeadPoint}
use Rattle.shm_table.specs.declared.fetch_head.FetchHeadPoint.TheVariants.{Head, Tail, Slot, Number, Share}
use Rattle.shm_table.specs.declared.fetch_head.{FetchHeadState.FetchHeadState, FetchedHead.FetchedHead}
use Rattle.shm_table.specs.declared.fetch_head.FetchedHead.TheVariants.{Empty, Refused, Rooted}
use Rattle.shm_table.specs.FetchHead.Control.{FetchHeadAnswer, FetchHeadCall, fetch_head_ask, is_head, fetch_head_steered}
use Rattle.shm_table.specs.{Get.UnderLatch.ReadsMore, Staying.{Cleared, Keeps, PutCause, SameMap}}

-- ---- when it may begin

-- as a take from another identity, by a client between two calls, in a pool for tables
pub record MayFetchHead (me : Me) (s : ℕ) (r : Memo) : Type 0 where
  pub take : MayTakeFrom me s r
  pub idle : IsIdle me.who r
  pub client : recovers r ≡ false
  pub table : is_loose r.part ≡ false

-- ---- on the way

-- Item n of the queue from s waits at its head, and is the value block b with the number v: q is the memo once the head, a tail above it, the slot and the number were read, by which nothing else changed
pub record IsAtHead (me : Me) (s n b v : ℕ) (r0 q : Memo) : Type 0 where
  pub reads : ReadsMore r0 q
  pub holds : IsHeld me q
  pub place : n ≡ own_word r0.own (spot.QueueHead s me.who)
  pub above : (y : ℕ) × Contains q.facts (Counter (spot.Tail s me.who) y) × (n < y)
  pub some : b ≢ 0
  pub known : Knows q (spot.Slot s me.who (n % 8)) b
  pub value : IsValue (sight me.who q) b v

-- some item waits there
abbrev pub IsWaited : Me → ℕ → Memo → Type 0
IsWaited me s r0 = (n : ℕ) × (b : ℕ) × (v : ℕ) × (q : Memo) × IsAtHead me s n b v r0 q

-- the head was read so far, and no event happened
pub record IsNumbered (me : Me) (s n b v : ℕ) (r0 r : Memo) (tr : Trail) (es : List Event) : Type 0 where
  pub may : MayFetchHead me s r0
  pub client : recovers r ≡ false
  pub at : IsAtHead me s n b v r0 r
  pub none : es ≡ []
  pub bound : IsWithin 4 tr

abbrev pub FetchHeadKnows : FetchHeadState → FetchHeadPoint → Memo → Memo → Trail → List Event → Type 0
FetchHeadKnows m Head r0 r tr es = MayFetchHead m.me m.from r0 × (r ≡ r0) × (tr ≡ []) × (es ≡ [])
FetchHeadKnows m Tail r0 r tr es = MayFetchHead m.me m.from r0 × IsHeadRead m.me m.from m.at 1 r0 r tr es
FetchHeadKnows m Slot r0 r tr es = MayFetchHead m.me m.from r0 × (IsHeadRead m.me m.from m.at 2 r0 r tr es × IsHeadSlot m.me.geometry.clients m.me.who r m.from (m.at % 8))
FetchHeadKnows m Number r0 r tr es = MayFetchHead m.me m.from r0 × (IsItemRead m.me m.from m.at m.block r0 r tr es × (m.block + 2 < total_of m.me.geometry))
FetchHeadKnows m Share r0 r tr es = IsNumbered m.me m.from m.at m.block m.number r0 r tr es

-- ---- what it leaves

-- four loads, and the root
abbrev pub fetch_head_steps : Bool → ℕ
fetch_head_steps wide = 4 + (up_steps wide + 16)

-- the value block at the head of the queue from s got no root for this reason: nothing else was done but reading
pub record IsHeadUnrooted (me : Me) (s : ℕ) (f : PutFault) (r0 r : Memo) (tr : Trail) (es : List Event) : Type 0 where
  pub keeps : Keeps me.who r0 r
  pub latch : r.latch ≡ r0.latch
  pub home : own_word r.own (spot.Home me.who) ≡ own_word r0.own (spot.Home me.who)
  pub map : SameMap r0 r
  pub cause : PutCause me r0 r f
  pub waits : IsWaited me s r0
  pub cleared : Cleared me.who r0 r
  pub none : es ≡ []
  pub bound : IsWithin (fetch_head_steps me.geometry.wide) tr

-- Root k, which was empty, names the value block b with the number v, which is item n of the queue from s and waits there; nothing else was done but reading, and the item and its number are known still
pub record IsHeadRooted (me : Me) (s k b v n : ℕ) (r0 r : Memo) (tr : Trail) (es : List Event) : Type 0 where
  pub keeps : Keeps me.who r0 r
  pub holds : IsHeld me r
  pub client : recovers r ≡ false
  pub latch : r.latch ≡ r0.latch
  pub home : own_word r.own (spot.Home me.who) ≡ own_word r0.own (spot.Home me.who)
  pub map : SameMap r0 r
  pub low : k < 16
  pub empty : root_word me.who r0 k ≡ 0
  pub root : root_word me.who r k ≡ b
  pub small : b < address_limit
  pub others : (j : ℕ) → k ≢ j → root_word me.who r j ≡ root_word me.who r0 j
  pub dying : r.dying ≡ r0.dying
  pub known : Knows r (spot.Slot s me.who (n % 8)) b
  pub value : IsValue (sight me.who r) b v
  pub events : es ≡ event.Up me.who (spot.Root me.who k) b ∷ []
  pub q : Memo
  pub source : IsAtHead me s n b v r0 q
  pub bound : IsWithin (fetch_head_steps me.geometry.wide) tr

abbrev pub FetchHeadLeaves : FetchHeadState → Memo → Memo → Trail → List Event → FetchedHead → Type 0
FetchHeadLeaves m r0 r tr es (Empty n) = TakeEmpty m.me m.from n r0 r tr es
FetchHeadLeaves m r0 r tr es (Refused f) = IsHeadUnrooted m.me m.from f r0 r tr es
FetchHeadLeaves m r0 r tr es (Rooted k b v n) = IsHeadRooted m.me m.from k b v n r0 r tr es

-- ---- the plan

-- what holds after each load, by the memo before, the word found and the memo
abbrev pub FetchHeadFound : FetchHeadState → FetchHeadPoint → Memo → ℕ → Memo → Type 0
FetchHeadFound m Tail = TailSeen m.me.who m.from
FetchHeadFound m Slot = HeadSlotLoaded m.me.who m.from (m.at % 8)
FetchHeadFound m Number = WordLoaded (spot.Body m.block 0)
FetchHeadFound m y = CountLoaded m.me.who (spot.QueueHead m.from m.me.who)

abbrev pub fetch_head_part : FetchHeadState → FetchHeadPoint → Part FetchHeadCall FetchHeadAnswer
fetch_head_part m y = grown (is_head y) (or_part (word_part (is_head y) m.me (fetch_head_ask m y) (FetchHeadFound m y)) up_root_part)

abbrev pub fetch_head_plan : Planned FetchHeadState FetchHeadCall FetchHeadAnswer FetchedHead
fetch_head_plan =
    record {
      steered = fetch_head_steered;
      part = λ m. fetch_head_part m m.point;
      knows = λ m. FetchHeadKnows m m.point;
      leaves = FetchHeadLeaves;
    }
