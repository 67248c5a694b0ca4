-- how many of some numbers are of each kind
use Rattle.std.specs.Prelude.{◌≡◌, ℕ, ◌<◌, Bool, false, ◌==◌, List, length, slice_index, Option, Some, None}
use Rattle.shm_graph.specs.References.{sum_below, one_if}

-- whether this is the kind i
abbrev pub is_kind : Option ℕ → ℕ → Bool
is_kind None i = false
is_kind (Some k) i = k == i

-- how many of the numbers below n are of the kind i
abbrev pub how_many : (ℕ → Option ℕ) → ℕ → ℕ → ℕ
how_many kind n i = sum_below n (λ a. one_if (is_kind (kind a) i))

-- the sum at each place says how many of the numbers below n are of the kind of that place
abbrev pub AreSums : (ℕ → Option ℕ) → ℕ → List ℕ → Type 0
AreSums kind n sums = (i : ℕ) → i < length sums → slice_index sums i ≡ how_many kind n i
