-- taking an entry of the own table out of its chain as a plan: when it may begin, what is known before each call, and what is left
pub mod Control
use Rattle.std.specs.Prelude.{◌≡◌, ◌≢◌, ℕ, zero, suc, ◌+◌, ◌%◌, ◌<◌, ◌≤◌, ◌==◌, if◌then◌else◌, true, false, Some, None, Result, Ok, Err, List, [], ◌∷◌, length}
use Rattle.std.specs.List.{All, Contains}
use Rattle.shm_words.specs.Layout.{GeometryFits, total_of, address_limit}
use Rattle.shm_graph.specs.declared.{ask.Me.Me, memo.Memo.Memo, spot.Spot.TheVariants.{Body, Home}, table.Entry.Entry}
use Rattle.shm_graph.specs.{Agents.recovers, Asks.{Trail, IsWithin}, Bounds.{change_steps, tear_steps}, Events.Event}
use Rattle.shm_graph.specs.{Idle.IsIdle, Telling.Entry as AnEntry, Views.own_word}
use Rattle.shm_graph.specs.Events as event
use Rattle.plans.specs.{declared.word.Word.Word, Either.or_part, Parts.{IsHeld, Part}, Plans.Planned, Words.word_part}
use Rattle.kind_parts.specs.{Beginning.IsOwnWord, Reparting.{sight, map_in}, Walking.{IsIn, IsSeeking}}
use Rattle.shm_count.specs.declared.{answer.UpFault.{UpFault, TheVariants.{EraSpent, CountFull}}, point.Aim.Aim}
use Rattle.shm_count.specs.{declared.point.StepPoint.TheVariants.Era, CountParts.tear_part, Roots.root_word}
use Rattle.shm_count.specs.Slots.{Lost, MayStepAt, StepCause, Parts.{change_slot_part, down_slot_part}}
use Rattle.shm_count.specs.{Step.{Control.IsInside, Parts.part_after}, Tear.Events.{Visit, frees}}
use Rattle.shm_count.specs.declared.point.Aim.TheVariants as aims
use Rattle.shm_table.specs.declared.unlink.UnlinkPoint.{UnlinkPoint, TheVariants.{Look, Lower, Change, Tear}}
use Rattle.shm_table.specs.{declared.unlink.UnlinkState.UnlinkState, EntryReads.EntryReads, Find.Control.word_ask}
use Rattle.shm_table.specs.{Replace.IsTorn, Staying.{Cleared, Ended, IsSpent, Keeps, MapCut, SameMap}}
use Rattle.shm_table.specs.{Unlink.Control.{UnlinkAnswer, UnlinkCall, is_look, unlink_steered}, ValuesListed.ReadsMore}

-- ---- when it may begin

-- between two calls of a client under its own latch: a search found the entry of the key, which word `word` of block `before` leads to
pub record MayUnlink (me : Me) (key entry before word : ℕ) (r : Memo) : Type 0 where
  pub geometry : GeometryFits me.geometry
  pub who : me.who < me.geometry.clients
  pub idle : IsIdle me.who r
  pub client : recovers r ≡ false
  pub found : (first : ℕ) × (xs : List Entry) × (e : Entry) × (ys : List Entry) × IsSeeking me.who r key first (Body before word) entry xs (e ∷ ys) × (e.key ≡ key)
  pub some : entry ≢ 0
  pub room : entry + 4 < total_of me.geometry
  pub here : IsIn r AnEntry entry

-- so for some key
abbrev pub MayBegin : Me → ℕ → ℕ → ℕ → Memo → Type 0
MayBegin me entry before word r = (key : ℕ) × MayUnlink me key entry before word r

-- ---- on the way

-- the count step by which the word loses the entry, where the next one is `next`, and its events
abbrev pub link_aim : ℕ → ℕ → Aim
link_aim entry zero = aims.Down entry
link_aim entry (suc x) = aims.Change entry (suc x)

abbrev pub link_events : ℕ → ℕ → ℕ → ℕ → ℕ → List Event → List Event
link_events c entry before word zero es = event.Down c (Body before word) entry ∷ es
link_events c entry before word (suc x) es = event.ChangeUp c (Body before word) entry (suc x) ∷ event.ChangeDown c entry ∷ es

-- the next word was read and names `next`; the entry is a counted block of the pool, the step may be made, and by it the key goes
pub record IsSeen (me : Me) (entry before word next : ℕ) (r0 r : Memo) : Type 0 where
  pub begun : MayBegin me entry before word r0
  pub reads : ReadsMore r0 r
  pub holds : IsHeld me r
  pub inside : IsInside me entry
  pub room : entry + 2 ≤ total_of me.geometry
  pub counted : Contains r.dying entry → ⊥
  pub own : IsOwnWord me.geometry.wide me.who r before word entry
  pub last : next ≡ 0 → MayStepAt (Body before word) false (record { me = me; slot = (before + 2 + word) % address_limit; aim = aims.Down entry; point = Era }) r
  pub goes : next ≢ 0 → MayStepAt (Body before word) false (record { me = me; slot = (before + 2 + word) % address_limit; aim = aims.Change entry next; point = Era }) r
  pub was : (key : ℕ) → MayUnlink me key entry before word r0 → (n : ℕ) × (v : ℕ) × (map_in r0.part key ≡ Some (n, v))
  pub map : (key : ℕ) → MayUnlink me key entry before word r0 → (k : ℕ) → map_in (part_after me.who (sight me.who r) (Body before word) next) k ≡ (if key == k then None else map_in r0.part k)

-- the word names the next entry or none, and the count of the entry came to 0
pub record IsFallen (me : Me) (entry before word next : ℕ) (r0 r : Memo) (tr : Trail) (es : List Event) : Type 0 where
  pub memo : Memo
  pub seen : IsSeen me entry before word next r0 memo
  pub lost : Lost me.who (Body before word) false entry next true memo r
  pub holds : IsHeld me r
  pub told : es ≡ link_events me.who entry before word next []
  pub bound : IsWithin (1 + change_steps me.geometry.wide) tr

abbrev pub UnlinkKnows : UnlinkState → UnlinkPoint → Memo → Memo → Trail → List Event → Type 0
UnlinkKnows m Look r0 r tr es = MayBegin m.me m.entry m.before m.word r0 × (r ≡ r0) × (tr ≡ []) × (es ≡ [])
UnlinkKnows m Lower r0 r tr es = (m.next ≡ 0) × IsSeen m.me m.entry m.before m.word m.next r0 r × (es ≡ []) × IsWithin 1 tr
UnlinkKnows m Change r0 r tr es = (m.next ≢ 0) × IsSeen m.me m.entry m.before m.word m.next r0 r × (es ≡ []) × IsWithin 1 tr
UnlinkKnows m Tear r0 r tr es = IsFallen m.me m.entry m.before m.word m.next r0 r tr es

-- ---- what it leaves

-- the word that led to the entry named the next one, or came to be empty, and the entry lost that reference
abbrev pub UnlinkEvents : Me → ℕ → ℕ → ℕ → List Event → List Visit → Type 0
UnlinkEvents me entry before word es vs = (next : ℕ) × (torn : List Event) × (es ≡ link_events me.who entry before word next torn) × IsTorn me.who entry torn vs

-- The key of the entry is gone, and no other key changed. The entry is torn down where nothing else names it; where that was stopped, `left` are the blocks that are zero-count blocks still
pub record Unlinked (me : Me) (entry before word : ℕ) (m r : Memo) (tr : Trail) (es : List Event) : Type 0 where
  pub keeps : Keeps me.who m r
  pub latch : r.latch ≡ m.latch
  pub home : own_word r.own (Home me.who) ≡ own_word m.own (Home me.who)
  pub roots : (j : ℕ) → root_word me.who r j ≡ root_word me.who m j
  pub map : (key : ℕ) → MayUnlink me key entry before word m → MapCut key m r
  pub left : List Visit
  pub dying : All (λ (x : Visit). Contains r.dying x.block) left
  pub ended : Ended me.who m r
  pub events : UnlinkEvents me entry before word es left
  pub bound : IsWithin (1 + change_steps me.geometry.wide + tear_steps me.geometry.wide (frees es + length left)) tr

-- why the word stays: the own era leaves no room, or the next entry has the greatest count
abbrev pub UnlinkCause : Me → Memo → UpFault → Type 0
UnlinkCause me r (EraSpent e) = IsSpent me.who e r
UnlinkCause me r (CountFull b n) = n ≡ 1023

-- and that exactly: of the step by which the word loses the entry, the own era that was read leaves no room for it, or the next entry's header that was read is full
abbrev pub UnlinkRefusal : Me → ℕ → Memo → UpFault → Type 0
UnlinkRefusal me entry m f = (next : ℕ) × StepCause me (link_aim entry next) m f

-- the step was refused, and nothing was done
pub record NotUnlinked (me : Me) (entry : ℕ) (m r : Memo) (tr : Trail) (es : List Event) (f : UpFault) : Type 0 where
  pub keeps : Keeps me.who m r
  pub latch : r.latch ≡ m.latch
  pub home : own_word r.own (Home me.who) ≡ own_word m.own (Home me.who)
  pub cleared : Cleared me.who m r
  pub map : SameMap m r
  pub cause : UnlinkCause me r f
  pub refusal : UnlinkRefusal me entry m f
  pub none : es ≡ []
  pub bound : IsWithin (1 + change_steps me.geometry.wide) tr

abbrev pub UnlinkLeaves : UnlinkState → Memo → Memo → Trail → List Event → Result (Unit {0}) UpFault → Type 0
UnlinkLeaves m r0 r tr es (Ok done) = Unlinked m.me m.entry m.before m.word r0 r tr es
UnlinkLeaves m r0 r tr es (Err f) = NotUnlinked m.me m.entry r0 r tr es f

-- ---- the plan

-- the load of the next word
abbrev pub look_part : UnlinkState → UnlinkPoint → Part Word ℕ
look_part m y = word_part (is_look y) m.me (word_ask m.entry 0) (EntryReads m.me m.entry 0)

abbrev pub unlink_plan : Planned UnlinkState UnlinkCall UnlinkAnswer (Result (Unit {0}) UpFault)
unlink_plan =
    record {
      steered = unlink_steered;
      part = λ m. let p = Body m.before m.word in or_part (look_part m m.point) (or_part (down_slot_part p false) (or_part (change_slot_part p false) tear_part));
      knows = λ m. UnlinkKnows m m.point;
      leaves = UnlinkLeaves;
    }
