-- trails: what an operation asks, told step by step, and what it answers in the end
use Rattle.std.specs.Prelude.{◌≡◌, ◌≢◌, ℕ, Bool, true, false, [], ◌∷◌, ◌++◌}
use Rattle.shm_graph.specs.{declared.ask.Ask.Ask, Asks.{Trail, pair}}

-- nothing is asked any more, and this is the answer
abbrev pub Answers : {A : Type 0} → A → Trail → A → Type 0
Answers a tr b = (tr ≡ []) × (a ≡ b)

-- one step, and then what follows by the word that it found
abbrev pub Asked : {A : Type 0} → Ask → (ℕ → Trail → A → Type 0) → Trail → A → Type 0
Asked a next tr b = (n : ℕ) × ((rest : Trail) × ((tr ≡ pair a n ∷ rest) × next n rest b))

-- one operation, and then another one by its answer
abbrev pub Joined : {A B : Type 0} → (Trail → A → Type 0) → (A → Trail → B → Type 0) → Trail → B → Type 0
Joined {A} first next tr b = (t : Trail) × ((rest : Trail) × (a : A) × (tr ≡ t ++ rest) × first t a × next a rest b)

-- a trail that isn't whole: something is still asked
abbrev pub IsBegun : {A : Type 0} → (Trail → A → Type 0) → Trail → Type 0
IsBegun {A} whole tr = (rest : Trail) × (a : A) × (rest ≢ []) × whole (tr ++ rest) a

-- the first trails where the bit is true, and otherwise the other ones
abbrev pub Chosen : {A : Type 0} → Bool → (Trail → A → Type 0) → (Trail → A → Type 0) → Trail → A → Type 0
Chosen true first other = first
Chosen false first other = other
