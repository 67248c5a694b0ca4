-- many word steps of a machine, one after the other at one site: that they may be made, that they were, and their trail
use Rattle.std.specs.Prelude.{◌≡◌, ℕ, zero, suc, ◌+◌, false, Option, Some, None, [], ◌∷◌, length}
use Rattle.shm_graph.specs.{declared.ask.{Ask.Ask, Turn.{Turn, TheVariants.{Done, Died}}}, Asks.{Trail, pair}, Laws.{Control, Outcome}}
use Rattle.shm_graph.specs.Tells.{after_all}

-- how they end: the word steps that are left of the life, the machine, the words, and what is told
pub record Stop (S W A : Type 0) : Type 0 where
  pub left : ℕ
  pub machine : S
  pub words : W
  pub turn : Turn A

module _ {S A W : Type 0} (k : Control S A) (may : W → Ask → Type 0) (made : W → Ask → W → Type 0) (seen : W → Ask → W → ℕ) where
  -- so many word steps may be made, or those until it has answered: by the control, and by what the site says of its words
  abbrev pub MayRun : ℕ → S → W → Type 0
  MayRun zero m w = Unit {0}
  MayRun (suc n) m w = (k.finished m ≡ false) × may w (k.asks m) × ((u : W) → made w (k.asks m) u → let x : ℕ = seen w (k.asks m) u in Outcome (k.turns m x) (MayRun n (k.after m x) u) (λ a. Unit {0}))

-- where nothing is answered, no life was left
abbrev pub ended_so : {A : Type 0} → Option A → Turn A
ended_so None = Died
ended_so (Some a) = Done a

abbrev pub or_later : {A : Type 0} → Option A → Option A → Option A
or_later None b = b
or_later (Some a) b = Some a

-- the first answer on a trail
abbrev pub answer_along : {S A : Type 0} → Control S A → S → Trail → Option A
answer_along k m [] = None
answer_along k m (x ∷ tr) = or_later (k.turns m x.word) (answer_along k (k.after m x.word) tr)

module _ {S A W : Type 0} (k : Control S A) (made : W → Ask → W → Type 0) (seen : W → Ask → W → ℕ) where
  -- they were made: by the last one it has answered, or no life is left
  abbrev pub HasRun : ℕ → S → W → Stop S W A → Type 0
  HasRun zero m w z = z ≡ record { left = 0; machine = m; words = w; turn = Died }
  HasRun (suc n) m w z =
      (u : W) × made w (k.asks m) u
      × (let x : ℕ = seen w (k.asks m) u in Outcome (k.turns m x) (HasRun n (k.after m x) u z) (λ a. z ≡ record { left = n; machine = k.after m x; words = u; turn = Done a }))

  -- the site's words ran along a trail
  abbrev pub RunsAlong : S → W → Trail → W → Type 0
  RunsAlong m w [] v = v ≡ w
  RunsAlong m w (x ∷ tr) v = (u : W) × made w (k.asks m) u × (x ≡ pair (k.asks m) (seen w (k.asks m) u)) × RunsAlong (k.after m x.word) u tr v

  -- the trail of so many word steps: the machine is where it leads, and life fell by its length; it has answered at the last pair, or no life is left
  pub record IsAlong (n : ℕ) (m : S) (w : W) (z : Stop S W A) : Type 0 where
    pub tr : Trail
    pub along : RunsAlong m w tr z.words
    pub machine : z.machine ≡ after_all k m tr
    pub life : length tr + z.left ≡ n
    pub turn : z.turn ≡ ended_so (answer_along k m tr)
    pub spent : answer_along k m tr ≡ None → z.left ≡ 0
