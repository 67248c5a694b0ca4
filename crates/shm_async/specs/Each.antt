-- items of a list, each by its number
use Rattle.std.specs.Prelude.{ℕ, suc, List, [], ◌∷◌}

-- of each item, in order, what is said of the numbers from c on
abbrev pub EachFrom : {X : Type 0} → (ℕ → X → Type 0) → ℕ → List X → Type 0
EachFrom P c [] = Unit {0}
EachFrom P c (x ∷ xs) = P c x × EachFrom P (suc c) xs
