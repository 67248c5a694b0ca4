-- what the home of an author names, as a plan: its control, what is known before each word step, and what is left
use Rattle.std.specs.Prelude.{◌≡◌, ◌≢◌, ℕ, ◌+◌, ◌%◌, ◌^◌, ◌<◌, ◌≤◌, Bool, true, false, ◌==◌, if◌then◌else◌, Option, None, Some, Result, Ok, Err, List, [], ◌∷◌, ◌++◌}
use Rattle.shm_words.specs.Layout.{GeometryFits, address, total_of, address_limit}
use Rattle.shm_words.specs.declared.place.Place.TheVariants as place
use Rattle.shm_graph.specs.declared.{ask.{Ask.{Ask, TheVariants.Load}, Me.Me}, spot.Spot.TheVariants.{Hold, Home}}
use Rattle.shm_graph.specs.{declared.memo.Memo.Memo, Asks.{Trail, pair}, Core.core, Events.Event, Reach.is_reached}
use Rattle.shm_graph.specs.Views.{own_word}
use Rattle.kind_parts.specs.WordParts.{HomeLooked, OwnLoaded}
use Rattle.plans.specs.{declared.word.Word.Word, Parts.Part, Plans.Planned, Words.word_part, Steering.Steered}
use Rattle.shm_ref.specs.declared.{answer.NotHeld.NotHeld, home_of.HomeOfPoint.{HomeOfPoint, TheVariants.{Whose, Find}}}
use Rattle.shm_ref.specs.{declared.home_of.HomeOfState.HomeOfState, AskedParts.asked_part, ReadParts.MayAsk}

-- ---- the control

-- before its first word step
abbrev pub finding : Me → ℕ → HomeOfState
finding me a = record { me = me; author = a; point = Whose }

-- the word step at a point
abbrev pub find_ask : Me → ℕ → HomeOfPoint → Ask
find_ask me a Whose = Load (address me.geometry (place.Hold me.who))
find_ask me a Find = Load (address me.geometry (place.Home a))

abbrev pub home_of_call : HomeOfState → HomeOfPoint → Word
home_of_call m y = record { me = m.me; ask = find_ask m.me m.author y; over = false }

abbrev pub home_of_after : HomeOfState → HomeOfPoint → ℕ → HomeOfState
home_of_after m Whose n = record m { point = Find }
home_of_after m Find n = m

abbrev pub home_of_turns : HomeOfState → HomeOfPoint → ℕ → Option (Result ℕ NotHeld)
home_of_turns m Whose n = if n == m.author + 1 then None else Some (Err (record {}))
home_of_turns m Find n = Some (Ok (n % address_limit))

abbrev pub is_whose : HomeOfPoint → Bool
is_whose Whose = true
is_whose y = false

-- what the control keeps in range
pub record HomeOfInRange (m : HomeOfState) : Type 0 where
  pub geometry : GeometryFits m.me.geometry
  pub who : m.me.who < m.me.geometry.clients
  pub author : m.author < m.me.geometry.clients

-- ---- on the way

-- all that is asked before the home, with what it sees
abbrev pub hold_trail : Me → ℕ → ℕ → Trail
hold_trail me a n = pair (find_ask me a Whose) n ∷ []

-- the hold word told that the latch of a is held, and nothing else came of its load
pub record IsFinding (me : Me) (a : ℕ) (r0 r : Memo) (tr : Trail) (es : List Event) : Type 0 where
  pub may : MayAsk me r0
  pub author : a < me.geometry.clients
  pub held : r0.latch ≡ Some a
  pub same : core r ≡ core r0
  pub none : es ≡ []
  pub trail : tr ≡ hold_trail me a (a + 1)

abbrev pub HomeKnows : HomeOfState → HomeOfPoint → Memo → Memo → Trail → List Event → Type 0
HomeKnows m Whose r0 r tr es = MayAsk m.me r0 × (m.author < m.me.geometry.clients) × (r ≡ r0) × (tr ≡ []) × (es ≡ [])
HomeKnows m Find r0 r tr es = IsFinding m.me m.author r0 r tr es

-- ---- what it leaves

-- The latch of a is held, and its home names b, or nothing where b is 0. The looks have grown by b, which is in reach then, and nothing else of the memo changed
pub record Found (me : Me) (a : ℕ) (r0 r : Memo) (tr : Trail) (es : List Event) (b : ℕ) : Type 0 where
  pub held : r0.latch ≡ Some a
  pub own : a ≡ me.who → b ≡ own_word r0.own (Home a)
  pub memo : core r ≡ core (if b == 0 then r0 else record r0 { looks = r0.looks ++ record { block = b; from = Home a } ∷ [] })
  pub reach : b ≢ 0 → is_reached me.who r b ≡ true
  pub room : b ≢ 0 → b + 2 ≤ total_of me.geometry
  pub none : es ≡ []
  pub trail : tr ≡ pair (find_ask me a Whose) (a + 1) ∷ pair (find_ask me a Find) b ∷ []

-- the own hold word isn't that of a, and nothing of the memo changed
pub record IsNotHeld (me : Me) (a : ℕ) (r0 r : Memo) (tr : Trail) (es : List Event) : Type 0 where
  pub other : own_word r0.own (Hold me.who) ≢ a + 1
  pub memo : core r ≡ core r0
  pub none : es ≡ []
  pub trail : tr ≡ hold_trail me a (own_word r0.own (Hold me.who))

abbrev pub HomeOfLeaves : HomeOfState → Memo → Memo → Trail → List Event → Result ℕ NotHeld → Type 0
HomeOfLeaves m r0 r tr es (Ok b) = Found m.me m.author r0 r tr es b
HomeOfLeaves m r0 r tr es (Err e) = IsNotHeld m.me m.author r0 r tr es

-- what holds after each word step, by the memo before, the word found and the memo
abbrev pub HomeOfFound : HomeOfState → HomeOfPoint → Memo → ℕ → Memo → Type 0
HomeOfFound m Whose = OwnLoaded (Hold m.me.who)
HomeOfFound m Find = HomeLooked m.me.who m.author

-- the part that the word step at a point is
abbrev pub home_of_part : HomeOfState → HomeOfPoint → Part Word ℕ
home_of_part m y = asked_part (word_part (is_whose y) m.me (find_ask m.me m.author y) (HomeOfFound m y))

abbrev pub home_of_steered : Steered HomeOfState Word ℕ (Result ℕ NotHeld)
home_of_steered =
    record {
      me = λ m. m.me;
      line = λ m. [];
      first = λ m. is_whose m.point;
      start = λ m. record m { point = Whose };
      call = λ m. home_of_call m m.point;
      after = λ m. home_of_after m m.point;
      turns = λ m. home_of_turns m m.point;
    }

abbrev pub home_of_plan : Planned HomeOfState Word ℕ (Result ℕ NotHeld)
home_of_plan =
    record {
      steered = home_of_steered;
      part = λ m. home_of_part m m.point;
      knows = λ m. HomeKnows m m.point;
      leaves = HomeOfLeaves;
    }
