-- a drain as a plan: what is known before each call, and what is left
pub mod Control
use Rattle.std.specs.Prelude.{◌≡◌, ◌≢◌, ℕ, ◌+◌, ◌*◌, ◌-◌, ◌^◌, ◌<◌, ◌≤◌, ◌==◌, if◌then◌else◌, ◌⊎◌, true, false, Result, Ok, Err, List, [], ◌∷◌, ◌++◌, length, slice_index, slice_index_or}
use Rattle.std.specs.List.{Contains}
use Rattle.shm_words.specs.Layout.{GeometryFits}
use Rattle.shm_graph.specs.declared.{ask.Me.Me, spot.Spot.{Spot, TheVariants.{Era, QueueHead, Tail}}}
use Rattle.shm_graph.specs.declared.memo.{Fact.TheVariants.Counter, Memo.Memo, Op.TheVariants.Nothing}
use Rattle.shm_graph.specs.{Asks.{Trail, IsWithin}, Bounds.{drain_steps, tear_steps, redo_steps}, Events.Event}
use Rattle.shm_graph.specs.{Spots.same_spot, Views.own_word}
use Rattle.kind_parts.specs.{Conditions.IsHere, WordParts.StatusLoaded}
use Rattle.plans.specs.{CallsPart.calls_part, Either.or_part, Grown.grown, Parts.Part, Plans.Planned, Words.word_part}
use Rattle.shm_count.specs.{declared.answer.EraSpent.EraSpent, Roots.rest, Tear.Events.frees, Lasting.is_lasting}
use Rattle.shm_queue.specs.declared.drain.{DrainPoint.{DrainPoint, TheVariants.{Status, Item}}, DrainState.DrainState}
use Rattle.shm_queue.specs.Drain.Control.{DrainCall, DrainAnswer, drain_ask, is_status, drain_steered}
use Rattle.shm_queue.specs.Take.{Control.take_parts, NotTaken, TakeEvents, TakeStopped, take_plan}

-- no step is in progress, and no item waits for its head
pub record MayDrain (me : Me) (m : Memo) : Type 0 where
  pub geometry : GeometryFits me.geometry
  pub who : me.who < me.geometry.clients
  pub here : IsHere m
  pub idle : m.op ≡ Nothing
  pub none : (s : ℕ) → slice_index m.untaken s ≡ 0

-- ---- the items that are taken

-- an item: from whom, its place in that queue, and its block
pub record TakenItem : Type 0 where
  pub from : ℕ
  pub place : ℕ
  pub block : ℕ

-- the blocks of the items from s, in order
abbrev pub blocks_from : ℕ → List TakenItem → List ℕ
blocks_from s [] = []
blocks_from s (x ∷ xs) = if x.from == s then x.block ∷ blocks_from s xs else blocks_from s xs

-- their events: those of one take after the other
abbrev pub ItemsEvents : ℕ → List TakenItem → List Event → Type 0
ItemsEvents c [] es = es ≡ []
ItemsEvents c (x ∷ xs) es = (before after : List Event) × (es ≡ before ++ after) × TakeEvents c x.from x.place x.block before × ItemsEvents c xs after

-- These items joined what was received, each queue's in order, and its head passed them; nothing waits for a head that didn't before, and nothing else of the memo changed but what is known and has been read, the redo record and the own row, which grew
pub record Drained (me : Me) (items : List TakenItem) (r0 r : Memo) : Type 0 where
  pub rest : rest r ≡ rest (record r0 { received = r.received; untaken = r.untaken })
  pub op : r.op ≡ Nothing
  pub untaken : (s : ℕ) → slice_index r.untaken s ≡ slice_index r0.untaken s
  pub received : (s : ℕ) → slice_index_or r.received s [] ≡ slice_index_or r0.received s [] ++ blocks_from s items
  pub heads : (s : ℕ) → own_word r.own (QueueHead s me.who) ≡ own_word r0.own (QueueHead s me.who) + length (blocks_from s items)
  pub own : (p : Spot) → is_lasting me.who p ≡ true → ((s : ℕ) → same_spot (QueueHead s me.who) p ≡ false) → own_word r.own p ≡ own_word r0.own p
  pub rows : (j : ℕ) → own_word r0.own (Era me.who j) ≤ own_word r.own (Era me.who j)
  pub dying : r.dying ≡ r0.dying

-- ---- on the way

-- the queues of the senders below n were read empty: a tail that was read is the own head
abbrev pub AreEmpty : Me → ℕ → Memo → Type 0
AreEmpty me n r = (s : ℕ) → s < n → s ≢ me.who → Contains r.facts (Counter (Tail s me.who) (own_word r.own (QueueHead s me.who)))

-- so many items were taken, the last ones from the sender that is next, and the queues of those before it were read empty
pub record IsDraining (m : DrainState) (r0 r : Memo) (tr : Trail) (es : List Event) : Type 0 where
  pub may : MayDrain m.me r0
  pub low : m.from < m.me.geometry.clients
  pub other : m.from ≢ m.me.who
  pub items : List TakenItem
  pub count : m.taken ≡ length items
  pub few : length items ≤ 2 ^ 47 * m.from + own_word r.own (QueueHead m.from m.me.who)
  pub drained : Drained m.me items r0 r
  pub events : ItemsEvents m.me.who items es
  pub empty : AreEmpty m.me m.from r
  pub bound : IsWithin ((11 + redo_steps m.me.geometry.wide) * length items + 2 * m.from + tear_steps m.me.geometry.wide (frees es) + 1) tr

abbrev pub DrainKnows : DrainState → DrainPoint → Memo → Memo → Trail → List Event → Type 0
DrainKnows m Status r0 r tr es = MayDrain m.me r0 × (m.taken ≡ 0) × (r ≡ r0) × (tr ≡ []) × (es ≡ [])
DrainKnows m Item r0 r tr es = IsDraining m r0 r tr es

-- ---- what it leaves

-- so many items were taken, with their events, and then each queue was read empty
pub record DrainDone (me : Me) (n : ℕ) (r0 r : Memo) (tr : Trail) (es : List Event) : Type 0 where
  pub items : List TakenItem
  pub count : n ≡ length items
  pub drained : Drained me items r0 r
  pub events : ItemsEvents me.who items es
  pub empty : AreEmpty me me.geometry.clients r
  pub bound : IsWithin (drain_steps me.geometry.wide me.geometry.clients n (frees es)) tr

-- the own era left no room: these items were taken, and then a take was refused, which left q as it says
pub record DrainStopped (me : Me) (r0 r : Memo) (tr : Trail) (es : List Event) (era : ℕ) : Type 0 where
  pub items : List TakenItem
  pub q : Memo
  pub drained : Drained me items r0 q
  pub from : ℕ
  pub before : List Event
  pub after : List Event
  pub events : ItemsEvents me.who items before
  pub split : es ≡ before ++ after
  pub last : Trail
  pub spent : 2 ^ 47 - 3 < era
  pub refused : (NotTaken me from q r last after era × IsWithin (drain_steps me.geometry.wide me.geometry.clients (length items) (frees es)) tr) ⊎ ((t : TakeStopped me from q r last after era) × IsWithin (drain_steps me.geometry.wide me.geometry.clients (length items + 1) (frees es + length t.left)) tr)

abbrev pub DrainLeaves : DrainState → Memo → Memo → Trail → List Event → Result ℕ EraSpent → Type 0
DrainLeaves m r0 r tr es (Ok n) = DrainDone m.me n r0 r tr es
DrainLeaves m r0 r tr es (Err e) = DrainStopped m.me r0 r tr es e.era

-- ---- the plan

abbrev pub drain_part : DrainState → DrainPoint → Part DrainCall DrainAnswer
drain_part m y = grown (is_status y) (or_part (word_part (is_status y) m.me (drain_ask m) StatusLoaded) (calls_part take_parts take_plan))

abbrev pub drain_plan : Planned DrainState DrainCall DrainAnswer (Result ℕ EraSpent)
drain_plan =
    record {
      steered = drain_steered;
      part = λ m. drain_part m m.point;
      knows = λ m. DrainKnows m m.point;
      leaves = DrainLeaves;
    }
