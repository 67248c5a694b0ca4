-- setting a reference word of an own block as a plan: when it may begin, what is known before each call, and what is left
pub mod Control
pub mod Memos
pub mod Told
use Rattle.std.specs.Prelude.{◌≡◌, ◌≢◌, ℕ, zero, suc, ◌+◌, ◌^◌, ◌<◌, ◌≤◌, true, false, ◌⊎◌, Some, Result, Ok, Err, List, [], ◌∷◌, ◌++◌, length, Bool}
use Rattle.std.specs.List.{Contains}
use Rattle.shm_words.specs.{Layout.{GeometryFits, total_of}, Tags.{tag_author, tag_refs}}
use Rattle.shm_graph.specs.declared.{ask.Me.Me, memo.{Memo.Memo, Op.TheVariants.Nothing}, spot.Spot.Spot}
use Rattle.shm_graph.specs.{Agents.recovers, Asks.{Trail, IsWithin}, Bounds.{change_steps, tear_steps}, Core.core}
use Rattle.shm_graph.specs.{Events.Event, Held.is_loose, Reach.is_reached, Views.own_word}
use Rattle.shm_graph.specs.declared.spot.Spot.TheVariants as spot
use Rattle.shm_graph.specs.Events as event
use Rattle.plans.specs.{declared.word.Word.Word, Either.or_part, Parts.{IsHeld, Part}, Plans.Planned, Words.word_part}
use Rattle.kind_parts.specs.{Conditions.IsHere, WordParts.{OwnLoaded, ReferenceLoaded, WordLoaded, as_known}}
use Rattle.shm_count.specs.{declared.{answer.UpFault.TheVariants.EraSpent, point.Aim.Aim}, CountParts.tear_part}
use Rattle.shm_count.specs.{Lowering.StoppedAt, Slots.{Filled, Lost, StepCause, Took, Untouched}}
use Rattle.shm_count.specs.{Slots.Parts.{change_slot_part, down_slot_part, up_slot_part}, Step.Control.IsInside}
use Rattle.shm_count.specs.Tear.Events.{Visit, Walks, frees}
use Rattle.shm_count.specs.declared.point.Aim.TheVariants as aims
use Rattle.shm_ref.specs.declared.{answer.SetFault.SetFault, set_ref.SetPoint.SetPoint}
use Rattle.shm_ref.specs.declared.set_ref.SetPoint.TheVariants.{Tag, Held, Look, Raise, Lower, Change, Tear}
use Rattle.shm_ref.specs.declared.set_ref.SetState.{SetState}
use Rattle.shm_ref.specs.SetRef.Control.{SetCall, SetAnswer, is_tag, set_ask, set_steered}
use Rattle.shm_ref.specs.SetRef.Memos.{tag_seen, word_seen}
use Rattle.shm_ref.specs.declared.answer.SetFault.TheVariants as fault

-- ---- when it may begin

-- no step is in progress and the agent is a client, in a pool for single calls; the block is one of the pool and in reach, and so is the one that the word is to name; the latch is held that the hold word names
pub record MaySetRef (me : Me) (b to : ℕ) (r : Memo) : Type 0 where
  pub geometry : GeometryFits me.geometry
  pub who : me.who < me.geometry.clients
  pub here : IsHere r
  pub idle : r.op ≡ Nothing
  pub client : recovers r ≡ false
  pub loose : is_loose r.part ≡ true
  pub room : b + 2 ≤ total_of me.geometry
  pub reach : is_reached me.who r b ≡ true
  pub target : to ≢ 0 → IsInside me to × (is_reached me.who r to ≡ true)
  pub latch : own_word r.own (spot.Hold me.who) ≡ me.who + 1 → r.latch ≡ Some me.who

-- ---- what was read

-- the tag says that the block is an own one, and has the word
pub record IsOwnRef (wide : Bool) (c b k t : ℕ) (r : Memo) : Type 0 where
  pub known : as_known (spot.Tag b) r t
  pub author : tag_author wide t ≡ c
  pub low : k < tag_refs wide t

-- the hold word names the own latch, and the word holds x
pub record IsRead (wide : Bool) (c b k t x : ℕ) (r : Memo) : Type 0 where
  pub tag : IsOwnRef wide c b k t r
  pub held : own_word r.own (spot.Hold c) ≡ c + 1
  pub known : as_known (spot.Body b k) (tag_seen b t r) x

-- ---- the count step

-- the step by which a word that names `old` comes to be `to`
abbrev pub aim_of : ℕ → ℕ → Aim
aim_of zero to = aims.Up to
aim_of (suc a) zero = aims.Down (suc a)
aim_of (suc a) (suc b) = aims.Change (suc a) (suc b)

-- the events of the step that takes a out of a word of c, in which x comes to stand
abbrev pub taken_events : ℕ → Spot → ℕ → ℕ → List Event
taken_events c p a zero = event.Down c p a ∷ []
taken_events c p a (suc x) = event.ChangeUp c p a (suc x) ∷ event.ChangeDown c a ∷ []

-- ---- on the way

-- the tag was read
pub record IsTagged (me : Me) (b k to t : ℕ) (r0 r : Memo) (tr : Trail) (es : List Event) : Type 0 where
  pub may : MaySetRef me b to r0
  pub tag : IsOwnRef me.geometry.wide me.who b k t r0
  pub same : core r ≡ core (tag_seen b t r0)
  pub client : recovers r ≡ false
  pub none : es ≡ []
  pub bound : IsWithin 1 tr

-- the own latch is held, and the word is one of the pool
pub record IsLatched (me : Me) (b k to t : ℕ) (r0 r : Memo) (tr : Trail) (es : List Event) : Type 0 where
  pub may : MaySetRef me b to r0
  pub tag : IsOwnRef me.geometry.wide me.who b k t r0
  pub held : own_word r0.own (spot.Hold me.who) ≡ me.who + 1
  pub inside : (0 < b + 2 + k) × (b + 2 + k < total_of me.geometry)
  pub same : core r ≡ core (tag_seen b t r0)
  pub client : recovers r ≡ false
  pub none : es ≡ []
  pub bound : IsWithin 2 tr

-- the word was read, and names another block than it is to name, or none; a block that it names is a counted one of the pool
pub record IsLooked (me : Me) (b k to t old : ℕ) (r0 r : Memo) (tr : Trail) (es : List Event) : Type 0 where
  pub may : MaySetRef me b to r0
  pub read : IsRead me.geometry.wide me.who b k t old r0
  pub inside : (0 < b + 2 + k) × (b + 2 + k < total_of me.geometry)
  pub other : old ≢ to
  pub counted : old ≢ 0 → IsInside me old × (old + 2 ≤ total_of me.geometry) × (Contains r0.dying old → ⊥)
  pub same : core r ≡ core (word_seen b k t old r0)
  pub client : recovers r ≡ false
  pub era : own_word r.own (spot.Era me.who me.who) + 1 < 2 ^ 47
  pub none : es ≡ []
  pub bound : IsWithin 3 tr

-- the word is `to`, and the count of the block that it named came to 0
pub record IsFallen (me : Me) (b k to t old : ℕ) (r0 r : Memo) (tr : Trail) (es : List Event) : Type 0 where
  pub may : MaySetRef me b to r0
  pub read : IsRead me.geometry.wide me.who b k t old r0
  pub some : old ≢ 0
  pub other : old ≢ to
  pub counted : IsInside me old × (old + 2 ≤ total_of me.geometry) × (Contains r0.dying old → ⊥)
  pub lost : Lost me.who (spot.Body b k) false old to true (word_seen b k t old r0) r
  pub holds : IsHeld me r
  pub told : es ≡ taken_events me.who (spot.Body b k) old to
  pub bound : IsWithin (3 + change_steps me.geometry.wide) tr

abbrev pub SetKnows : SetState → SetPoint → Memo → Memo → Trail → List Event → Type 0
SetKnows m Tag r0 r tr es = MaySetRef m.me m.block m.to r0 × (r ≡ r0) × (tr ≡ []) × (es ≡ [])
SetKnows m Held r0 r tr es = (t : ℕ) × IsTagged m.me m.block m.word m.to t r0 r tr es
SetKnows m Look r0 r tr es = (t : ℕ) × IsLatched m.me m.block m.word m.to t r0 r tr es
SetKnows m Raise r0 r tr es = (m.before ≡ 0) × (m.to ≢ 0) × ((t : ℕ) × IsLooked m.me m.block m.word m.to t m.before r0 r tr es)
SetKnows m Lower r0 r tr es = (m.before ≢ 0) × (m.to ≡ 0) × ((t : ℕ) × IsLooked m.me m.block m.word m.to t m.before r0 r tr es)
SetKnows m Change r0 r tr es = (m.before ≢ 0) × (m.to ≢ 0) × ((t : ℕ) × IsLooked m.me m.block m.word m.to t m.before r0 r tr es)
SetKnows m Tear r0 r tr es = (t : ℕ) × IsFallen m.me m.block m.word m.to t m.before r0 r tr es

-- ---- what it leaves

-- Of the memo m in which the word was read and named `old`: the word was `to`, and nothing was done; or it was empty and names `to`; or `old` is taken out of it, and was torn down where its count came to 0
pub data SetDid (me : Me) (b k old to : ℕ) (m r : Memo) (es : List Event) : Type 0 where
  Kept : (same : old ≡ to) (memo : core r ≡ core m) (none : es ≡ []) → SetDid me b k old to m r es
  Raised : (empty : old ≡ 0) (some : to ≢ 0) (filled : Filled me.who (spot.Body b k) to m r) (up : es ≡ event.Up me.who (spot.Body b k) to ∷ []) → SetDid me b k old to m r es
  Taken : (some : old ≢ 0) (other : old ≢ to) (lost : Lost me.who (spot.Body b k) false old to false m r) (torn : List Event) (told : es ≡ taken_events me.who (spot.Body b k) old to ++ torn) (walk : (torn ≡ []) ⊎ Walks me.who old torn []) → SetDid me b k old to m r es

-- the word is `to`
pub record RefSet (me : Me) (b k to : ℕ) (r0 r : Memo) (tr : Trail) (es : List Event) : Type 0 where
  pub tag : ℕ
  pub old : ℕ
  pub read : IsRead me.geometry.wide me.who b k tag old r0
  pub did : SetDid me b k old to (word_seen b k tag old r0) r es
  pub bound : IsWithin (3 + change_steps me.geometry.wide + tear_steps me.geometry.wide (frees es)) tr

-- the own era was spent: at the count step, and nothing was done; or at a step down of the tear-down, and these blocks are left as zero-count blocks
pub data SetSpent (me : Me) (b k to : ℕ) (r0 r : Memo) (es : List Event) (e : ℕ) (vs : List Visit) : Type 0 where
  AtStep : (tag old : ℕ) (read : IsRead me.geometry.wide me.who b k tag old r0) (other : old ≢ to) (memo : Untouched me.who (word_seen b k tag old r0) r) (cause : StepCause me (aim_of old to) r0 (EraSpent e)) (none : es ≡ []) (all : vs ≡ []) → SetSpent me b k to r0 r es e vs
  AtTear : (tag old : ℕ) (read : IsRead me.geometry.wide me.who b k tag old r0) (some : old ≢ 0) (other : old ≢ to) (took : Took me.who (spot.Body b k) false old to false (word_seen b k tag old r0) r) (stopped : StoppedAt me (word_seen b k tag old r0) r e vs) (torn : List Event) (told : es ≡ taken_events me.who (spot.Body b k) old to ++ torn) (walk : Walks me.who old torn vs) → SetSpent me b k to r0 r es e vs

-- the count of the block that the word was to name was full
pub record SetFull (me : Me) (b k to : ℕ) (r0 r : Memo) (d n : ℕ) : Type 0 where
  pub tag : ℕ
  pub old : ℕ
  pub read : IsRead me.geometry.wide me.who b k tag old r0
  pub other : old ≢ to
  pub some : to ≢ 0
  pub memo : Untouched me.who (word_seen b k tag old r0) r
  pub block : d ≡ to
  pub full : n ≡ 1023

-- what a refusal says of the words that were read, and leaves of the memo; vs are the zero-count blocks that are left on the way
abbrev pub SetStays : Me → ℕ → ℕ → ℕ → Memo → Memo → List Event → List Visit → SetFault → Type 0
SetStays me b k to r0 r es vs (fault.NotAuthor a) = (t : ℕ) × as_known (spot.Tag b) r0 t × (a ≡ tag_author me.geometry.wide t) × (a ≢ me.who) × (core r ≡ core (tag_seen b t r0)) × (es ≡ []) × (vs ≡ [])
SetStays me b k to r0 r es vs (fault.NoSuchRef n) = (t : ℕ) × as_known (spot.Tag b) r0 t × (tag_author me.geometry.wide t ≡ me.who) × (n ≡ tag_refs me.geometry.wide t) × (n ≤ k) × (core r ≡ core (tag_seen b t r0)) × (es ≡ []) × (vs ≡ [])
SetStays me b k to r0 r es vs fault.NotHeld = (t : ℕ) × IsOwnRef me.geometry.wide me.who b k t r0 × (own_word r0.own (spot.Hold me.who) ≢ me.who + 1) × (core r ≡ core (tag_seen b t r0)) × (es ≡ []) × (vs ≡ [])
SetStays me b k to r0 r es vs (fault.EraSpent e) = SetSpent me b k to r0 r es e vs
SetStays me b k to r0 r es vs (fault.CountFull d n) = SetFull me b k to r0 r d n × (es ≡ []) × (vs ≡ [])

pub record SetRefused (me : Me) (b k to : ℕ) (r0 r : Memo) (tr : Trail) (es : List Event) (f : SetFault) : Type 0 where
  pub left : List Visit
  pub stays : SetStays me b k to r0 r es left f
  pub bound : IsWithin (3 + change_steps me.geometry.wide + tear_steps me.geometry.wide (frees es + length left)) tr

abbrev pub SetLeaves : SetState → Memo → Memo → Trail → List Event → Result (Unit {0}) SetFault → Type 0
SetLeaves m r0 r tr es (Ok done) = RefSet m.me m.block m.word m.to r0 r tr es
SetLeaves m r0 r tr es (Err f) = SetRefused m.me m.block m.word m.to r0 r tr es f

-- ---- the plan

-- what holds after a word step
abbrev pub set_found : SetState → SetPoint → Memo → ℕ → Memo → Type 0
set_found m Tag = WordLoaded (spot.Tag m.block)
set_found m Held = OwnLoaded (spot.Hold m.me.who)
set_found m y = ReferenceLoaded m.block m.word

abbrev pub set_word_part : SetState → SetPoint → Part Word ℕ
set_word_part m y = word_part (is_tag y) m.me (set_ask m y) (set_found m y)

abbrev pub set_plan : Planned SetState SetCall SetAnswer (Result (Unit {0}) SetFault)
set_plan =
    record {
      steered = set_steered;
      part = λ m. let p = spot.Body m.block m.word in or_part (set_word_part m m.point) (or_part (or_part (up_slot_part p false) (down_slot_part p false)) (or_part (change_slot_part p false) tear_part));
      knows = λ m. SetKnows m m.point;
      leaves = SetLeaves;
    }
