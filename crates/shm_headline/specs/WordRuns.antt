-- runs as the words show them: which turns were taken, and by whom; no memo and no machine is spoken of
use Rattle.std.specs.Prelude.{◌≡◌, ◌≢◌, ◌⊎◌, ℕ, ◌+◌, ◌<◌, ◌==◌, Bool, true, false, if◌then◌else◌, Option, Some, None, List, [], ◌∷◌}
use Rattle.shm_words.specs.{declared.geometry.Geometry.Geometry, Layout.total_of, Tags.tag_refs}
use Rattle.shm_graph.specs.declared.{ask.Ask.Ask, spot.Spot.{Spot, TheVariants.{Body, Head, Status, Tag}}}
use Rattle.shm_graph.specs.{Asks.{at_of, words_set}, Blocks.{IsLive, headers}, Spots.see, Views.at1}
use Rattle.shm_headline.specs.Now.{IsExact, names, owed}

-- ---- turns

-- a turn of an identity: a load, a store or a compare-exchange of one word; the death of the client or recoverer that acts for it; the beginning of its next one
pub data Act : Type 0 where
  Steps : (c : ℕ) (ask : Ask) → Act
  Dies : (c : ℕ) → Act
  Begins : (c : ℕ) → Act

-- the words after a turn
abbrev pub words_by : Act → List ℕ → List ℕ
words_by (Steps c a) ws = words_set a ws
words_by (Dies c) ws = ws
words_by (Begins c) ws = ws

-- who is at work after a turn: an identity is from a beginning on, until a death
abbrev pub at_work_by : Act → (ℕ → Bool) → ℕ → Bool
at_work_by (Steps c a) on = on
at_work_by (Dies c) on = at1 on c false
at_work_by (Begins c) on = at1 on c true

-- ---- what a turn may be

-- at most one word names something else
abbrev pub ChangesOne : (Spot → ℕ) → (Spot → ℕ) → Type 0
ChangesOne t u = (p : Spot) × ((q : Spot) → u q ≢ t q → q ≡ p)

-- What a word step of c makes of the pool: it is of a word of it; at most one word comes to name something else; a block that comes to be live was named by nothing, and one that comes to be free had the count 0, was c's, and named nothing any more; no other identity comes to owe anything, or less
pub record IsStep (g : Geometry) (c : ℕ) (a : Ask) (w v : Spot → ℕ) : Type 0 where
  pub inside : at_of a < total_of g
  pub one : ChangesOne (names g w) (names g v)
  pub allocated : (b : ℕ) → w (Head b) ≡ 0 → v (Head b) ≢ 0 → (p : Spot) → names g w p ≢ b
  pub freed : (b : ℕ) → IsLive (headers w) b → v (Head b) ≡ 0 → ((headers w b).count ≡ 0) × ((headers w b).client ≡ c) × ((i : ℕ) → i < tag_refs g.wide (w (Tag b)) → names g w (Body b i) ≡ 0)
  pub others : (d : ℕ) → d ≢ c → owed g v d ≡ owed g w d

-- Who may: a word step and a death are of an identity that is at work, so a dead client makes no further step before its identity begins again. An identity of the pool begins where it isn't at work, or where its last client or recoverer finished and left: its status word is 3
abbrev pub IsTurn : Geometry → (ℕ → Bool) → List ℕ → Act → Type 0
IsTurn g on ws (Steps c a) = (on c ≡ true) × IsStep g c a (see g ws) (see g (words_set a ws))
IsTurn g on ws (Dies c) = on c ≡ true
IsTurn g on ws (Begins c) = (c < g.clients) × ((on c ≡ false) ⊎ (see g ws (Status c) ≡ 3))

-- The turns lead from some words to others. The counts are exact before the first of them and after each, so between any two word steps and at each death
abbrev pub Goes : Geometry → (ℕ → Bool) → List ℕ → List Act → List ℕ → Type 0
Goes g on ws [] vs = IsExact g (see g ws) × (ws ≡ vs)
Goes g on ws (t ∷ ts) vs = IsExact g (see g ws) × IsTurn g on ws t × Goes g (at_work_by t on) (words_by t ws) ts vs

-- nobody is at work
abbrev pub nobody : ℕ → Bool
nobody c = false

-- ---- what turns show

-- how many word steps the first client of c had made when it died, n of them before these turns; None where it doesn't die. It has `begun`, or begins in these turns; and where the identity begins again it isn't that client that acts any more
abbrev pub death_of : ℕ → Bool → ℕ → List Act → Option ℕ
death_of c begun n [] = None
death_of c begun n (Steps d a ∷ ts) = death_of c begun (if d == c then n + 1 else n) ts
death_of c begun n (Dies d ∷ ts) = if d == c then Some n else death_of c begun n ts
death_of c begun n (Begins d ∷ ts) = if d == c then (if begun then None else death_of c true n ts) else death_of c begun n ts
