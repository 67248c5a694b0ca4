-- What writes do to the bytes that a sink holds, where it tells them.
use Rattle.std.specs.Prelude.{◌≡◌, ℕ, ◌<◌, List, ◌++◌, length, take, Option, Some, None, MatchOption}

-- the bytes held grew by these, and a sink that doesn't tell them stays so
abbrev pub Appends : Option (List ℕ) → Option (List ℕ) → List ℕ → Type 0
Appends before after bytes = MatchOption before (after ≡ None) (λ held. after ≡ Some (held ++ bytes))

-- the bytes held grew by a front of the text, and not by all of it
abbrev pub AppendsFront : Option (List ℕ) → Option (List ℕ) → List ℕ → Type 0
AppendsFront before after text = MatchOption before (after ≡ None) (λ held. (n : ℕ) × (n < length text) × (after ≡ Some (held ++ take n text)))
