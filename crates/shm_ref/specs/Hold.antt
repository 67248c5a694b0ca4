-- taking a latch as a plan: what is known before each word step, and what is left
pub mod Control
use Rattle.std.specs.Prelude.{◌≡◌, ℕ, ◌+◌, ◌<◌, ◌≤◌, ◌==◌, if◌then◌else◌, None, Some, Result, Ok, Err, List, [], ◌∷◌}
use Rattle.shm_words.specs.Layout.{GeometryFits}
use Rattle.shm_graph.specs.declared.{ask.Me.Me, spot.Spot.TheVariants.Hold, memo.{Memo.Memo, Op.TheVariants.Nothing}}
use Rattle.shm_graph.specs.{Asks.{Trail, pair}, Events.Event, MemoAfterStore.with_own, Core.core}
use Rattle.kind_parts.specs.Conditions.{IsHere}
use Rattle.plans.specs.{declared.word.Word.Word, Parts.Part, Plans.Planned, Words.word_part}
use Rattle.shm_ref.specs.declared.hold.{HoldPoint.{HoldPoint, TheVariants.{Want, Take, Back}}, HoldState.HoldState}
use Rattle.shm_ref.specs.{declared.answer.Busy.Busy, AskedParts.asked_part}
use Rattle.shm_ref.specs.Hold.Control.{hold_ask, is_want, taken_trail, busy_trail, hold_steered}

-- no step is in progress, and no latch is held
pub record MayTakeLatch (me : Me) (a : ℕ) (r : Memo) : Type 0 where
  pub geometry : GeometryFits me.geometry
  pub who : me.who < me.geometry.clients
  pub author : a < me.geometry.clients
  pub here : IsHere r
  pub idle : r.op ≡ Nothing
  pub none : r.latch ≡ None

-- the memo with the hold word x
abbrev pub wants : ℕ → ℕ → Memo → Memo
wants c x r = with_own r (Hold c) x

-- the hold word names the latch, with no event
pub record IsWanted (me : Me) (a : ℕ) (r0 r : Memo) (es : List Event) : Type 0 where
  pub may : MayTakeLatch me a r0
  pub same : core r ≡ core (wants me.who (a + 1) r0)
  pub none : es ≡ []

abbrev pub HoldKnows : HoldState → HoldPoint → Memo → Memo → Trail → List Event → Type 0
HoldKnows m Want r0 r tr es = MayTakeLatch m.me m.author r0 × (r ≡ r0) × (tr ≡ []) × (es ≡ [])
HoldKnows m Take r0 r tr es = IsWanted m.me m.author r0 r es × (tr ≡ pair (hold_ask m.me m.author Want) 0 ∷ [])
HoldKnows m Back r0 r tr es = IsWanted m.me m.author r0 r es × (m.holder < m.me.geometry.clients) × (tr ≡ pair (hold_ask m.me m.author Want) 0 ∷ pair (hold_ask m.me m.author Take) (m.holder + 1) ∷ [])

-- the latch is held, as the hold word tells
pub record LatchTaken (me : Me) (a : ℕ) (r0 r : Memo) (tr : Trail) (es : List Event) : Type 0 where
  pub memo : core r ≡ core (record (wants me.who (a + 1) r0) { latch = Some a })
  pub none : es ≡ []
  pub trail : tr ≡ taken_trail me a

-- client h held it: the exchange found its number and one, and the hold word is 0 again
pub record IsBusy (me : Me) (a h : ℕ) (r0 r : Memo) (tr : Trail) (es : List Event) : Type 0 where
  pub memo : core r ≡ core (wants me.who 0 (wants me.who (a + 1) r0))
  pub holder : h < me.geometry.clients
  pub none : es ≡ []
  pub trail : tr ≡ busy_trail me a h

abbrev pub HoldLeaves : HoldState → Memo → Memo → Trail → List Event → Result (Unit {0}) Busy → Type 0
HoldLeaves m r0 r tr es (Ok done) = LatchTaken m.me m.author r0 r tr es
HoldLeaves m r0 r tr es (Err e) = IsBusy m.me m.author e.holder r0 r tr es

-- what holds after each word step, by the memo before, the word found and the memo; a latch that isn't nobody's names a client
abbrev pub HoldFound : HoldState → HoldPoint → Memo → ℕ → Memo → Type 0
HoldFound m Want r n x = (core x ≡ core (wants m.me.who (m.author + 1) r)) × (n ≡ 0)
HoldFound m Take r n x = (core x ≡ core (if n == 0 then record r { latch = Some m.author } else r)) × (n ≤ m.me.geometry.clients)
HoldFound m Back r n x = (core x ≡ core (wants m.me.who 0 r)) × (n ≡ 0)

-- the part that the word step at a point is
abbrev pub hold_part : HoldState → HoldPoint → Part Word ℕ
hold_part m y = asked_part (word_part (is_want y) m.me (hold_ask m.me m.author y) (HoldFound m y))

abbrev pub hold_plan : Planned HoldState Word ℕ (Result (Unit {0}) Busy)
hold_plan =
    record {
      steered = hold_steered;
      part = λ m. hold_part m m.point;
      knows = λ m. HoldKnows m m.point;
      leaves = HoldLeaves;
    }
