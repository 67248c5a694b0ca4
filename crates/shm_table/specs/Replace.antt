-- giving an entry of the own table another value block as a plan: when it may begin, what is known before each call, and what is left
pub mod Control
use Rattle.std.specs.Prelude.{◌≡◌, ◌≢◌, ℕ, ◌+◌, ◌%◌, ◌<◌, ◌≤◌, ◌==◌, ◌⊎◌, if◌then◌else◌, Bool, true, false, Some, Result, Ok, Err, List, [], ◌∷◌, length}
use Rattle.std.specs.List.{All, Contains}
use Rattle.shm_words.specs.Layout.{GeometryFits, total_of, address_limit}
use Rattle.shm_graph.specs.declared.{ask.Me.Me, memo.Memo.Memo, spot.Spot.TheVariants.{Body, Home}, table.Entry.Entry}
use Rattle.shm_graph.specs.{Agents.recovers, Asks.{Trail, IsWithin}, Bounds.{change_steps, tear_steps}, Events.Event}
use Rattle.shm_graph.specs.{Idle.IsIdle, Telling.Entry as AnEntry, Views.own_word}
use Rattle.shm_graph.specs.Events as event
use Rattle.plans.specs.{declared.word.Word.Word, Either.or_part, Parts.{IsHeld, Part}, Plans.Planned, Words.word_part}
use Rattle.kind_parts.specs.{Beginning.IsOwnWord, Reparting.{sight, map_in, IsValue}, Walking.{IsIn, IsSeeking}}
use Rattle.shm_count.specs.{declared.{answer.UpFault.UpFault, point.StepPoint.TheVariants.Era}, CountParts.tear_part}
use Rattle.shm_count.specs.{Roots.root_word, Slots.{Lost, MayStepAt, StepCause, Parts.change_slot_part}}
use Rattle.shm_count.specs.{Step.{Control.IsInside, Parts.part_after}, Tear.Events.{Visit, Walks, frees}}
use Rattle.shm_count.specs.declared.point.Aim.TheVariants as aims
use Rattle.shm_table.specs.declared.{answer.PutFault.PutFault, replace.ReplacePoint.ReplacePoint}
use Rattle.shm_table.specs.declared.replace.{ReplacePoint.TheVariants.{Look, Change, Tear}, ReplaceState.ReplaceState}
use Rattle.shm_table.specs.{Answers.raised_fault, EntryReads.EntryReads, Find.Control.word_ask}
use Rattle.shm_table.specs.Replace.Control.{ReplaceAnswer, ReplaceCall, is_look, replace_steered}
use Rattle.shm_table.specs.{Staying.{Cleared, Ended, Keeps, MapSet, PutCause, SameMap}, ValuesListed.ReadsMore}

-- ---- when it may begin

-- between two calls of a client under its own latch: a search found the entry of the key, which word `word` of block `before` leads to; v is a value block with the number n that an own root names
pub record MayReplace (me : Me) (key v n entry before word : ℕ) (r : Memo) : Type 0 where
  pub geometry : GeometryFits me.geometry
  pub who : me.who < me.geometry.clients
  pub idle : IsIdle me.who r
  pub client : recovers r ≡ false
  pub found : (first : ℕ) × (xs : List Entry) × (e : Entry) × (ys : List Entry) × IsSeeking me.who r key first (Body before word) entry xs (e ∷ ys) × (e.key ≡ key)
  pub some : entry ≢ 0
  pub room : entry + 4 < total_of me.geometry
  pub here : IsIn r AnEntry entry
  pub value : IsValue (sight me.who r) v n
  pub named : (k : ℕ) × (k < 16) × (root_word me.who r k ≡ v)
  pub block : v ≢ 0

-- so for some key
abbrev pub MayBegin : Me → ℕ → ℕ → Memo → Type 0
MayBegin me entry v r = (key : ℕ) × (n : ℕ) × (before : ℕ) × (word : ℕ) × MayReplace me key v n entry before word r

-- ---- on the way

-- the value word was read and names another value block, a counted one of the pool; the change may be made, and it sets the key
pub record IsSeen (me : Me) (entry v old : ℕ) (r0 r : Memo) : Type 0 where
  pub begun : MayBegin me entry v r0
  pub reads : ReadsMore r0 r
  pub holds : IsHeld me r
  pub other : old ≢ v
  pub inside : IsInside me old
  pub room : old + 2 ≤ total_of me.geometry
  pub counted : Contains r.dying old → ⊥
  pub own : IsOwnWord me.geometry.wide me.who r entry 1 old
  pub step : MayStepAt (Body entry 1) false (record { me = me; slot = (entry + 2 + 1) % address_limit; aim = aims.Change old v; point = Era }) r
  pub was : (key n before word : ℕ) → MayReplace me key v n entry before word r0 → (a : ℕ) × (map_in r0.part key ≡ Some (a, old))
  pub map : (key n before word : ℕ) → MayReplace me key v n entry before word r0 → (k : ℕ) → map_in (part_after me.who (sight me.who r) (Body entry 1) v) k ≡ (if key == k then Some (n, v) else map_in r0.part k)

-- the events of the change
abbrev pub changed_events : ℕ → ℕ → ℕ → ℕ → List Event → List Event
changed_events c entry old v es = event.ChangeUp c (Body entry 1) old v ∷ event.ChangeDown c old ∷ es

-- the value word names the new block, and the count of the old one came to 0
pub record IsFallen (me : Me) (entry v old : ℕ) (r0 r : Memo) (tr : Trail) (es : List Event) : Type 0 where
  pub memo : Memo
  pub seen : IsSeen me entry v old r0 memo
  pub lost : Lost me.who (Body entry 1) false old v true memo r
  pub holds : IsHeld me r
  pub told : es ≡ changed_events me.who entry old v []
  pub bound : IsWithin (1 + change_steps me.geometry.wide) tr

abbrev pub ReplaceKnows : ReplaceState → ReplacePoint → Memo → Memo → Trail → List Event → Type 0
ReplaceKnows m Look r0 r tr es = MayBegin m.me m.entry m.to r0 × (r ≡ r0) × (tr ≡ []) × (es ≡ [])
ReplaceKnows m Change r0 r tr es = IsSeen m.me m.entry m.to m.before r0 r × (es ≡ []) × IsWithin 1 tr
ReplaceKnows m Tear r0 r tr es = IsFallen m.me m.entry m.to m.before r0 r tr es

-- ---- what it leaves

-- a block that lost a reference has others, or it was torn down, but for these blocks where that was stopped
abbrev pub IsTorn : ℕ → ℕ → List Event → List Visit → Type 0
IsTorn c b torn vs = ((torn ≡ []) × (vs ≡ [])) ⊎ Walks c b torn vs

-- the entry had the value block, or it had another one, which lost that reference
abbrev pub ReplaceEvents : Me → ℕ → ℕ → Memo → List Event → List Visit → Type 0
ReplaceEvents me entry v m es vs = ((es ≡ []) × (vs ≡ []) × ((key n before word : ℕ) → MayReplace me key v n entry before word m → map_in m.part key ≡ Some (n, v))) ⊎ ((old : ℕ) × (torn : List Event) × (old ≢ v) × ((key n before word : ℕ) → MayReplace me key v n entry before word m → (a : ℕ) × (map_in m.part key ≡ Some (a, old))) × (es ≡ changed_events me.who entry old v torn) × IsTorn me.who old torn vs)

-- The key of the entry has the value block and its number, and no other key changed. The block that it had before is torn down where nothing else names it; where that was stopped, `left` are the blocks that are zero-count blocks still
pub record Replaced (me : Me) (v entry : ℕ) (m r : Memo) (tr : Trail) (es : List Event) : Type 0 where
  pub keeps : Keeps me.who m r
  pub latch : r.latch ≡ m.latch
  pub home : own_word r.own (Home me.who) ≡ own_word m.own (Home me.who)
  pub roots : (j : ℕ) → root_word me.who r j ≡ root_word me.who m j
  pub map : (key n before word : ℕ) → MayReplace me key v n entry before word m → MapSet key n v m r
  pub left : List Visit
  pub dying : All (λ (x : Visit). Contains r.dying x.block) left
  pub ended : Ended me.who m r
  pub events : ReplaceEvents me entry v m es left
  pub bound : IsWithin (1 + change_steps me.geometry.wide + tear_steps me.geometry.wide (frees es + length left)) tr

-- and why exactly: the own era that was read leaves no room for the change, or the header of the new block that was read is full
abbrev pub ReplaceRefusal : Me → ℕ → Memo → PutFault → Type 0
ReplaceRefusal me v m f = (old : ℕ) × (g : UpFault) × (f ≡ raised_fault g) × StepCause me (aims.Change old v) m g

-- the change was refused, and nothing was done
pub record NotReplaced (me : Me) (v : ℕ) (m r : Memo) (tr : Trail) (es : List Event) (f : PutFault) : Type 0 where
  pub keeps : Keeps me.who m r
  pub latch : r.latch ≡ m.latch
  pub home : own_word r.own (Home me.who) ≡ own_word m.own (Home me.who)
  pub cleared : Cleared me.who m r
  pub map : SameMap m r
  pub cause : PutCause me m r f
  pub refusal : ReplaceRefusal me v m f
  pub none : es ≡ []
  pub bound : IsWithin (1 + change_steps me.geometry.wide) tr

-- where it answers that the entry had the value block already, no key changed
abbrev pub ReplaceLeaves : ReplaceState → Memo → Memo → Trail → List Event → Result Bool PutFault → Type 0
ReplaceLeaves m r0 r tr es (Ok done) = Replaced m.me m.to m.entry r0 r tr es × (done ≡ false → SameMap r0 r)
ReplaceLeaves m r0 r tr es (Err f) = NotReplaced m.me m.to r0 r tr es f

-- ---- the plan

-- the load of the value word
abbrev pub look_part : ReplaceState → ReplacePoint → Part Word ℕ
look_part m y = word_part (is_look y) m.me (word_ask m.entry 1) (EntryReads m.me m.entry 1)

abbrev pub replace_plan : Planned ReplaceState ReplaceCall ReplaceAnswer (Result Bool PutFault)
replace_plan =
    record {
      steered = replace_steered;
      part = λ m. or_part (look_part m m.point) (or_part (change_slot_part (Body m.entry 1) false) tear_part);
      knows = λ m. ReplaceKnows m m.point;
      leaves = ReplaceLeaves;
    }
