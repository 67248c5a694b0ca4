-- giving back a latch as a plan: its control, what is known before each word step, and what is left
use Rattle.std.specs.Prelude.{◌≡◌, ℕ, ◌+◌, ◌-◌, ◌%◌, ◌<◌, Bool, true, false, Option, None, Some, List, [], ◌∷◌}
use Rattle.shm_words.specs.Layout.{GeometryFits, address}
use Rattle.shm_words.specs.declared.place.Place.TheVariants as place
use Rattle.shm_graph.specs.declared.{ask.{Ask.Ask, Me.Me}, memo.{Memo.Memo, Op.TheVariants.Nothing}}
use Rattle.shm_graph.specs.{Asks.{Trail, pair}, Events.Event, Reach.unlatched, Core.core}
use Rattle.shm_graph.specs.declared.ask.Ask.TheVariants as ask
use Rattle.kind_parts.specs.Conditions.{IsHere}
use Rattle.plans.specs.{declared.word.Word.Word, Parts.Part, Plans.Planned, Words.word_part, Steering.Steered}
use Rattle.shm_ref.specs.declared.release.ReleasePoint.{ReleasePoint, TheVariants.{Whose, Give, Back}}
use Rattle.shm_ref.specs.{declared.release.ReleaseState.ReleaseState, AskedParts.asked_part, Hold.wants}

-- ---- the control

-- before its first word step
abbrev pub releasing : Me → ReleaseState
releasing me = record { me = me; author = 0; point = Whose }

-- the word step at a point
abbrev pub release_ask : Me → ℕ → ReleasePoint → Ask
release_ask me a Whose = ask.Load (address me.geometry (place.Hold me.who))
release_ask me a Give = ask.Store (address me.geometry (place.Latch a)) 0
release_ask me a Back = ask.Store (address me.geometry (place.Hold me.who)) 0

abbrev pub release_call : ReleaseState → ReleasePoint → Word
release_call m y = record { me = m.me; ask = release_ask m.me m.author y; over = false }

abbrev pub release_after : ReleaseState → ReleasePoint → ℕ → ReleaseState
release_after m Whose n = record m { author = (n - 1) % m.me.geometry.clients; point = Give }
release_after m Give n = record m { point = Back }
release_after m Back n = m

abbrev pub release_turns : ReleasePoint → Option (Unit {0})
release_turns Back = Some tt
release_turns y = None

abbrev pub is_whose : ReleasePoint → Bool
is_whose Whose = true
is_whose y = false

-- what the control keeps in range
pub record ReleaseInRange (m : ReleaseState) : Type 0 where
  pub geometry : GeometryFits m.me.geometry
  pub who : m.me.who < m.me.geometry.clients
  pub author : m.author < m.me.geometry.clients

-- ---- when it may begin, and on the way

-- no step is in progress, and the latch of a is held
pub record MayRelease (me : Me) (a : ℕ) (r : Memo) : Type 0 where
  pub geometry : GeometryFits me.geometry
  pub who : me.who < me.geometry.clients
  pub here : IsHere r
  pub idle : r.op ≡ Nothing
  pub latch : r.latch ≡ Some a

-- the hold word told that the latch is that of a, and so far the memo is f of the one before, with no event and this trail
pub record IsReleasing (me : Me) (a : ℕ) (f : Memo → Memo) (seen : Trail) (r0 r : Memo) (tr : Trail) (es : List Event) : Type 0 where
  pub may : MayRelease me a r0
  pub author : a < me.geometry.clients
  pub same : core r ≡ core (f r0)
  pub none : es ≡ []
  pub trail : tr ≡ seen

-- all that is asked, with what it sees
abbrev pub whose_trail : Me → ℕ → Trail
whose_trail me a = pair (release_ask me a Whose) (a + 1) ∷ []

abbrev pub given_trail : Me → ℕ → Trail
given_trail me a = pair (release_ask me a Whose) (a + 1) ∷ pair (release_ask me a Give) 0 ∷ []

abbrev pub release_trail : Me → ℕ → Trail
release_trail me a = pair (release_ask me a Whose) (a + 1) ∷ pair (release_ask me a Give) 0 ∷ pair (release_ask me a Back) 0 ∷ []

abbrev pub ReleaseKnows : ReleaseState → ReleasePoint → Memo → Memo → Trail → List Event → Type 0
ReleaseKnows m Whose r0 r tr es = (a : ℕ) × MayRelease m.me a r0 × (r ≡ r0) × (tr ≡ []) × (es ≡ [])
ReleaseKnows m Give r0 r tr es = IsReleasing m.me m.author (λ x. x) (whose_trail m.me m.author) r0 r tr es
ReleaseKnows m Back r0 r tr es = IsReleasing m.me m.author (unlatched m.me.geometry.wide m.me.who) (given_trail m.me m.author) r0 r tr es

-- ---- what it leaves

-- the latch that was held is given back and the hold word is 0; no latch is held, and the looks are over
pub record Released (me : Me) (r0 r : Memo) (tr : Trail) (es : List Event) : Type 0 where
  pub author : ℕ
  pub held : r0.latch ≡ Some author
  pub memo : core r ≡ core (wants me.who 0 (unlatched me.geometry.wide me.who r0))
  pub latch : r.latch ≡ None
  pub looks : r.looks ≡ []
  pub none : es ≡ []
  pub trail : tr ≡ release_trail me author

-- what holds after each word step, by the memo before, the word found and the memo; the hold word tells which latch is held
abbrev pub ReleaseFound : ReleaseState → ReleasePoint → Memo → ℕ → Memo → Type 0
ReleaseFound m Whose r n x = (core x ≡ core r) × ((a : ℕ) → r.latch ≡ Some a → (n ≡ a + 1) × (a < m.me.geometry.clients))
ReleaseFound m Give r n x = (core x ≡ core (unlatched m.me.geometry.wide m.me.who r)) × (n ≡ 0)
ReleaseFound m Back r n x = (core x ≡ core (wants m.me.who 0 r)) × (n ≡ 0)

-- the part that the word step at a point is
abbrev pub release_part : ReleaseState → ReleasePoint → Part Word ℕ
release_part m y = asked_part (word_part (is_whose y) m.me (release_ask m.me m.author y) (ReleaseFound m y))

abbrev pub release_steered : Steered ReleaseState Word ℕ (Unit {0})
release_steered =
    record {
      me = λ m. m.me;
      line = λ m. [];
      first = λ m. is_whose m.point;
      start = λ m. record m { author = 0; point = Whose };
      call = λ m. release_call m m.point;
      after = λ m. release_after m m.point;
      turns = λ m n. release_turns m.point;
    }

abbrev pub release_plan : Planned ReleaseState Word ℕ (Unit {0})
release_plan =
    record {
      steered = release_steered;
      part = λ m. release_part m m.point;
      knows = λ m. ReleaseKnows m m.point;
      leaves = λ m r0 r tr es done. Released m.me r0 r tr es;
    }
