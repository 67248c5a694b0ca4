-- reading what a key has as a plan: what is known before each call, and what is left
pub mod Control
pub mod UnderLatch
pub mod Bound
pub mod Tells
pub mod Finding
use Rattle.std.specs.{Prelude.{◌≡◌, ℕ, ◌+◌, ◌<◌, false, Option, Some, None, List, [], ◌∷◌, ◌++◌}, List.Contains}
use Rattle.shm_words.specs.Layout.{total_of}
use Rattle.shm_graph.specs.declared.{ask.Me.Me, memo.{Memo.Memo, Stored.Stored}, spot.Spot.Spot}
use Rattle.shm_graph.specs.{declared.spot.Spot.TheVariants.{Hold, Body}, Asks.{Trail, pair, IsWithin}, Core.core}
use Rattle.shm_graph.specs.{Events.Event, Spots.same_spot, Telling.{Entry as AnEntry, Value as AValue}, Views.own_word}
use Rattle.plans.specs.{declared.word.Word.Word, CallsPart.calls_part, Either.or_part, Parts.{IsHeld, Part}}
use Rattle.plans.specs.{Plans.Planned, Words.{word_control, word_part}}
use Rattle.kind_parts.specs.{Reparting.map_in, Walking.IsIn, WordParts.{ReferenceLoaded, WordLoaded}}
use Rattle.shm_ref.specs.AskedParts.{asked_part}
use Rattle.shm_script.specs.declared.log.Answer.{Answer}
use Rattle.shm_script.specs.declared.line.Line.TheVariants as line
use Rattle.shm_script.specs.declared.log.Answer.TheVariants as answer
use Rattle.shm_table.specs.declared.get.GetPoint.{GetPoint, TheVariants.{Search, Value, Number, Missing, Known}}
use Rattle.shm_table.specs.{declared.get.GetState.GetState, Find.Control.{Passed, walk_trail, word_ask}}
use Rattle.shm_table.specs.Find.{AreOthers, EndsNowhere, IsLook, Tells.HasRead}
use Rattle.shm_table.specs.Get.Control.{GetCall, GetAnswer, get_ask, is_search, get_steered}
use Rattle.shm_table.specs.{Locate.{Control.locate_parts, MayLocate, locate_plan}, Staying.{Cleared, Keeps, SameMap}}
use Rattle.shm_table.specs.Unlatch.{unlatch_plan, unlatch_trail}

-- ---- on the way

-- The latch of a is held; of the memo before it was taken only own words by the hold word, the looks, what is known and the value blocks are others, and what was known is known. The memo is one of a held state
pub record IsReading (me : Me) (a : ℕ) (r0 r : Memo) : Type 0 where
  pub may : MayLocate me a r0
  pub memo : core r ≡ core (record r0 { own = r.own; latch = Some a; looks = r.looks; known = r.known; values = r.values })
  pub own : (p : Spot) → same_spot (Hold me.who) p ≡ false → own_word r.own p ≡ own_word r0.own p
  pub known : (s : Stored) → Contains r0.known s → Contains r.known s
  pub values : (b : ℕ) → Contains r0.values b → Contains r.values b
  pub held : IsHeld me r

-- all that is asked where these entries were passed, and the next one has the key
abbrev pub found_trail : Me → ℕ → ℕ → ℕ → List Passed → ℕ → Trail
found_trail me a key home ps entry = walk_trail me a key home ps entry ++ pair (word_ask entry 2) key ∷ []

-- a chain was read up to an entry that has the key, and then this was asked
pub record IsAt (me : Me) (a key entry : ℕ) (seen : Trail) (r0 r : Memo) (tr : Trail) (es : List Event) : Type 0 where
  pub reading : IsReading me a r0 r
  pub has : HasRead a r key entry
  pub none : es ≡ []
  pub before : Trail
  pub bound : IsWithin 2 before
  pub home : ℕ
  pub passed : List Passed
  pub others : AreOthers key passed
  pub trail : tr ≡ before ++ (found_trail me a key home passed entry ++ seen)

-- no entry has the key
pub record IsNowhere (me : Me) (a key : ℕ) (r0 r : Memo) (tr : Trail) (es : List Event) : Type 0 where
  pub reading : IsReading me a r0 r
  pub none : es ≡ []
  pub before : Trail
  pub bound : IsWithin 2 before
  pub walk : Trail
  pub home : ℕ
  pub first : ℕ
  pub ends : EndsNowhere me a key home first walk
  pub trail : tr ≡ before ++ walk
  pub absent : a ≡ me.who → map_in r0.part key ≡ None

-- the value word of the entry, and the number of the block that it names, with what they were found to be
abbrev pub value_trail : ℕ → ℕ → Trail
value_trail entry v = pair (word_ask entry 1) v ∷ []

abbrev pub number_trail : ℕ → ℕ → ℕ → Trail
number_trail entry v n = pair (word_ask entry 1) v ∷ pair (word_ask v 0) n ∷ []

-- Under the latch of a the memo shows a chain that was read up to the entry of the key, the value word of that entry, and the number of the block that it names
pub record IsTold (a key entry n v : ℕ) (r : Memo) : Type 0 where
  pub has : HasRead a r key entry
  pub look : IsLook r (Body entry 1) v
  pub number : Contains r.known (record { spot = Body v 0; value = n })

abbrev pub GetKnows : GetState → GetPoint → Memo → Memo → Trail → List Event → Type 0
GetKnows m Search r0 r tr es = MayLocate m.me m.author r0 × (r ≡ r0) × (tr ≡ []) × (es ≡ [])
GetKnows m Value r0 r tr es = IsAt m.me m.author m.key m.entry [] r0 r tr es × IsIn r AnEntry m.entry × (m.entry + 4 < total_of m.me.geometry)
GetKnows m Number r0 r tr es = IsAt m.me m.author m.key m.entry (value_trail m.entry m.block) r0 r tr es × IsLook r (Body m.entry 1) m.block × IsIn r AValue m.block × (m.block + 2 < total_of m.me.geometry)
GetKnows m Missing r0 r tr es = IsNowhere m.me m.author m.key r0 r tr es
GetKnows m Known r0 r tr es = IsAt m.me m.author m.key m.entry (number_trail m.entry m.block m.number) r0 r tr es × IsTold m.author m.key m.entry m.number m.block r

-- ---- what it leaves

-- The latch was taken and given back, and between them only read: each own word is what it was, no latch is held, no look is left, and of the rest only what is known and the value blocks may be others
pub record Visited (me : Me) (m r : Memo) : Type 0 where
  pub memo : core r ≡ core (record m { own = r.own; latch = None; looks = []; known = r.known; values = r.values })
  pub own : (p : Spot) → own_word r.own p ≡ own_word m.own p
  pub keeps : Keeps me.who m r
  pub cleared : Cleared me.who m r
  pub map : SameMap m r

-- no entry has the key: the home was read as 0, or a whole chain; in the own table the map has no such key
pub record GotNone (me : Me) (a key : ℕ) (m r : Memo) (tr : Trail) (es : List Event) : Type 0 where
  pub visited : Visited me m r
  pub none : es ≡ []
  pub before : Trail
  pub bound : IsWithin 2 before
  pub walk : Trail
  pub home : ℕ
  pub first : ℕ
  pub ends : EndsNowhere me a key home first walk
  pub trail : tr ≡ before ++ (walk ++ unlatch_trail me a)
  pub absent : a ≡ me.who → map_in m.part key ≡ None

-- The entry that has the key was found, its value word names v, and the number of v is n; q is the memo before the latch was given back. In the own table the map has them at the key
pub record GotSome (me : Me) (a key n v : ℕ) (m r : Memo) (tr : Trail) (es : List Event) : Type 0 where
  pub visited : Visited me m r
  pub none : es ≡ []
  pub before : Trail
  pub bound : IsWithin 2 before
  pub entry : ℕ
  pub home : ℕ
  pub passed : List Passed
  pub others : AreOthers key passed
  pub trail : tr ≡ before ++ (found_trail me a key home passed entry ++ (number_trail entry v n ++ unlatch_trail me a))
  pub q : Memo
  pub reading : IsReading me a m q
  pub told : IsTold a key entry n v q
  pub has : a ≡ me.who → map_in m.part key ≡ Some (n, v)

abbrev pub GetLeaves : GetState → Memo → Memo → Trail → List Event → Answer → Type 0
GetLeaves m r0 r tr es (answer.Value n v) = GotSome m.me m.author m.key n v r0 r tr es
GetLeaves m r0 r tr es answer.Missing = GotNone m.me m.author m.key r0 r tr es
GetLeaves m r0 r tr es a = ⊥

-- ---- the plan

-- what holds after each load, by the memo before, the word found and the memo
abbrev pub GetFound : GetState → GetPoint → Memo → ℕ → Memo → Type 0
GetFound m Value = ReferenceLoaded m.entry 1
GetFound m y = WordLoaded (Body m.block 0)

-- the part that the load at a point is
abbrev pub get_word_part : GetState → GetPoint → Part Word ℕ
get_word_part m y = asked_part (word_part (is_search y) m.me (get_ask m y) (GetFound m y))

abbrev pub get_part : GetState → GetPoint → Part GetCall GetAnswer
get_part m y = or_part (calls_part locate_parts locate_plan) (or_part (get_word_part m y) (calls_part word_control unlatch_plan))

abbrev pub get_plan : Planned GetState GetCall GetAnswer Answer
get_plan =
    record {
      steered = get_steered;
      part = λ m. get_part m m.point;
      knows = λ m. GetKnows m m.point;
      leaves = GetLeaves;
    }
