-- takes that are finished, as a plan: what is known before each word step, and what is left
pub mod Control
pub mod Words
use Rattle.std.specs.Prelude.{◌≡◌, ◌≢◌, ℕ, ◌+◌, ◌*◌, ◌-◌, ◌^◌, ◌<◌, ◌≤◌, ◌==◌, if◌then◌else◌, ◌⊎◌, false, List, [], ◌∷◌, ◌++◌, length, slice_index, slice_index_or}
use Rattle.shm_graph.specs.declared.{ask.Me.Me, spot.Spot.{Spot, TheVariants.QueueHead}, memo.Memo.Memo}
use Rattle.shm_graph.specs.{Asks.{Trail, IsWithin}, Core.core, Events.Event, Spots.same_spot, Views.own_word}
use Rattle.kind_parts.specs.WordParts.{CountLoaded, HeadStored}
use Rattle.plans.specs.{declared.word.Word.Word, Parts.Part, Plans.Planned, Words.word_part}
use Rattle.shm_recover.specs.declared.finish_takes.FinishPoint.{FinishPoint, TheVariants.{Head, Tail, Slot, Store}}
use Rattle.shm_recover.specs.declared.finish_takes.FinishState.{FinishState}
use Rattle.shm_recover.specs.FinishTakes.Control.{finish_ask, from_of, is_first, finish_steered}
use Rattle.shm_recover.specs.{FinishTakes.Words.{FirstSlotLoaded, IsFirstSlot, TailShown}, Others.{MayServe, other_at}}

-- ---- queues

-- the item that waits for its head, if there is one
abbrev pub waiting : ℕ → List ℕ
waiting b = if b == 0 then [] else b ∷ []

-- of the queue from s the item that waited for its head joined what was received, and the head passed it
pub record QueueDone (c s : ℕ) (m r : Memo) : Type 0 where
  pub received : slice_index_or r.received s [] ≡ slice_index_or m.received s [] ++ waiting (slice_index m.untaken s)
  pub untaken : slice_index r.untaken s ≡ 0
  pub head : own_word r.own (QueueHead s c) ≡ own_word m.own (QueueHead s c) + length (waiting (slice_index m.untaken s))

-- it is as it was
pub record QueueSame (c s : ℕ) (m r : Memo) : Type 0 where
  pub received : slice_index_or r.received s [] ≡ slice_index_or m.received s []
  pub untaken : slice_index r.untaken s ≡ slice_index m.untaken s
  pub head : own_word r.own (QueueHead s c) ≡ own_word m.own (QueueHead s c)

-- the memo but for its own words, what was received and waits for its head, and what it knows
abbrev pub but_heads : Memo → Memo
but_heads m = core (record m { own = []; received = []; untaken = []; known = []; values = [] })

-- nothing of the memo changed but its heads, what was received and waited for its head, and what it knows and has read
pub record Heads (c : ℕ) (m r : Memo) : Type 0 where
  pub rest : but_heads r ≡ but_heads m
  pub own : (p : Spot) → ((s : ℕ) → same_spot (QueueHead s c) p ≡ false) → own_word r.own p ≡ own_word m.own p

-- ---- on the way

-- the queues from those before n are done, and the others are as they were
pub record Finished (c n : ℕ) (m r : Memo) : Type 0 where
  pub heads : Heads c m r
  pub before : (s : ℕ) → s < n → s ≢ c → QueueDone c s m r
  pub after : (s : ℕ) → (n ≤ s) ⊎ (s ≡ c) → QueueSame c s m r

-- so many queues are done, and k word steps of the next one
pub record IsFinishing (me : Me) (p k : ℕ) (r0 r : Memo) (tr : Trail) (es : List Event) : Type 0 where
  pub may : MayServe me r0
  pub low : p + 1 < me.geometry.clients
  pub finished : Finished me.who (other_at me.who p) r0 r
  pub none : es ≡ []
  pub bound : IsWithin (4 * p + k) tr

-- the own head was read
abbrev pub IsAt : FinishState → Memo → Type 0
IsAt m r = m.at ≡ own_word r.own (QueueHead (from_of m) m.me.who)

abbrev pub FinishKnows : FinishState → FinishPoint → Memo → Memo → Trail → List Event → Type 0
FinishKnows m Head r0 r tr es = IsFinishing m.me m.passed 0 r0 r tr es
FinishKnows m Tail r0 r tr es = IsFinishing m.me m.passed 1 r0 r tr es × IsAt m r
FinishKnows m Slot r0 r tr es = IsFinishing m.me m.passed 2 r0 r tr es × IsAt m r × IsFirstSlot m.me.who r (from_of m)
FinishKnows m Store r0 r tr es = IsFinishing m.me m.passed 3 r0 r tr es × IsAt m r × (m.at + 1 < 2 ^ 64) × (slice_index r.untaken (from_of m) ≢ 0)

-- ---- what it leaves

-- each queue is done, and nothing waits for its head
pub record FinishDone (me : Me) (r0 r : Memo) (tr : Trail) (es : List Event) : Type 0 where
  pub heads : Heads me.who r0 r
  pub done : (s : ℕ) → QueueDone me.who s r0 r
  pub none : es ≡ []
  pub bound : IsWithin (4 * (me.geometry.clients - 1)) tr

-- ---- the plan

-- what holds of a memo after the word step at a point, by the word found and the memo before
abbrev pub FinishFound : FinishState → FinishPoint → Memo → ℕ → Memo → Type 0
FinishFound m Head = CountLoaded m.me.who (QueueHead (from_of m) m.me.who)
FinishFound m Tail = TailShown m.me.who (from_of m)
FinishFound m Slot = FirstSlotLoaded m.me.who (from_of m)
FinishFound m Store = HeadStored m.me.who (from_of m)

abbrev pub finish_part : FinishState → FinishPoint → Part Word ℕ
finish_part m y = word_part (is_first (record m { point = y })) m.me (finish_ask m y) (FinishFound m y)

abbrev pub finish_plan : Planned FinishState Word ℕ (Unit {0})
finish_plan =
    record {
      steered = finish_steered;
      part = λ m. finish_part m m.point;
      knows = λ m. FinishKnows m m.point;
      leaves = λ m r0 r tr es u. FinishDone m.me r0 r tr es;
    }
