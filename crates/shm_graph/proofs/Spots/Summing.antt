-- sums over the numbers below a number
use Rattle.std.proofs.Common.{◌≡◌, ℕ, ◌+◌, ap, add-one, arith}
use Rattle.shm_graph.specs.References.{sum_below}

pub sum_below-one_more : (f : ℕ → ℕ) (n : ℕ) → sum_below (n + 1) f ≡ sum_below n f + f n
sum_below-one_more f n = ap (λ k. sum_below k f) (add-one n)

-- a count that goes up by one, or stays
pub sum_up : (f : ℕ → ℕ) (n s t : ℕ) → s ≡ sum_below n f → t ≡ s + 1 → f n ≡ 1 → t ≡ sum_below (n + 1) f
sum_up f n s t e u one = let m = sum_below-one_more f n in omega arith

pub sum_same : (f : ℕ → ℕ) (n s t : ℕ) → s ≡ sum_below n f → t ≡ s → f n ≡ 0 → t ≡ sum_below (n + 1) f
sum_same f n s t e u none = let m = sum_below-one_more f n in omega arith
