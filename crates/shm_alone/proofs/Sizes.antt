-- sums that fall
use Rattle.std.proofs.{Common.{◌≡◌, ℕ, ◌*◌, ◌<◌, ◌≤◌, zero, suc, arith, inl, inr, ap}, lemmas.Bool.cases_eq}
use Rattle.shm_graph.specs.References.{sum_below}

-- a sum of lower numbers is lower
pub sum_most : (n : ℕ) (f h : ℕ → ℕ) → ((a : ℕ) → f a ≤ h a) → sum_below n f ≤ sum_below n h
sum_most zero f h e = omega arith
sum_most (suc n) f h e = let i = sum_most n f h e in let j = e n in omega arith

-- and by one where one of them is
pub sum_less : (n : ℕ) (f h : ℕ → ℕ) (x : ℕ) → x < n → ((a : ℕ) → f a ≤ h a) → f x < h x → sum_below n f < sum_below n h
sum_less zero f h x l e u = absurd (omega arith)
sum_less (suc n) f h x l e u =
    elim (cases_eq n x) [
      | inl d ↦
          let i = sum_most n f h e in
          let f' : f n ≡ f x = ap f d in
          let h' : h n ≡ h x = ap h d in
          omega arith
      | inr d ↦ (let i = sum_less n f h x (omega arith) e u in let j = e n in omega arith)
    ]

-- n numbers that are at most m
pub sum_bound : (n m : ℕ) (f : ℕ → ℕ) → ((a : ℕ) → f a ≤ m) → sum_below n f ≤ n * m
sum_bound zero m f e = omega arith
sum_bound (suc n) m f e = let i = sum_bound n m f e in let j = e n in grind arith
