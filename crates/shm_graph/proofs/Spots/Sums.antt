-- sums in which one term counts, and how many words name a block
use Rattle.std.proofs.Common.{◌≡◌, ◌≢◌, ℕ, ◌+◌, ◌<◌, zero, suc, refl, sym, ap, ◌∙◌, arith, inl, inr}
use Rattle.std.proofs.lemmas.Bool.{cases_eq, eq-eqb, ne_eqb}
use Rattle.std.specs.Prelude.{◌==◌}
use Rattle.shm_graph.specs.References.{sum_below, one_if}

pub sum_none : (n : ℕ) (f : ℕ → ℕ) → ((a : ℕ) → a < n → f a ≡ 0) → sum_below n f ≡ 0
sum_none zero f h = refl
sum_none (suc n) f h =
    let i = sum_none n f (λ a l. h a (omega arith)) in
    let e = h n (omega arith) in
    omega arith

pub sum_one : (n : ℕ) (f : ℕ → ℕ) (x : ℕ) → x < n → f x ≡ 1 → ((a : ℕ) → a < n → a ≢ x → f a ≡ 0) → sum_below n f ≡ 1
sum_one zero f x l e h = absurd (omega arith)
sum_one (suc n) f x l e h =
    elim (cases_eq x n) [
      | inl d ↦
          let i = sum_none n f (λ a l. h a (omega arith) (omega arith)) in
          let f' : f n ≡ 1 = sym (ap f d) ∙ e in
          omega arith
      | inr d ↦
          let l' : x < n = omega (arith, d) in
          let i = sum_one n f x l' e (λ a l. h a (omega arith)) in
          let f' = h n (omega arith) (λ q. d (sym q)) in
          omega arith
    ]

-- a number that a function takes at one place below n
pub one_hit : (n : ℕ) (t : ℕ → ℕ) (b x : ℕ) → x < n → t x ≡ b → ((a : ℕ) → a < n → t a ≡ b → a ≡ x) → sum_below n (λ a. one_if (t a == b)) ≡ 1
one_hit n t b x l e h =
    sum_one n (λ a. one_if (t a == b)) x l (ap one_if (eq-eqb (t x) b e)) (λ a m d. ap one_if (ne_eqb (t a) b (λ q. d (h a m q))))

-- ---- sums of sums

pub sum_each : (n : ℕ) (f h : ℕ → ℕ) → ((a : ℕ) → a < n → f a ≡ h a) → sum_below n f ≡ sum_below n h
sum_each zero f h e = refl
sum_each (suc n) f h e =
    let i = sum_each n f h (λ a l. e a (omega arith)) in
    let j = e n (omega arith) in
    omega arith

sum_both : (n : ℕ) (f h : ℕ → ℕ) → sum_below n (λ a. f a + h a) ≡ sum_below n f + sum_below n h
sum_both zero f h = refl
sum_both (suc n) f h = let i = sum_both n f h in omega arith

-- the terms of a table, by rows and by columns
pub sum_swap : (n m : ℕ) (f : ℕ → ℕ → ℕ) → sum_below n (λ a. sum_below m (f a)) ≡ sum_below m (λ b. sum_below n (λ a. f a b))
sum_swap zero m f = sym (sum_none m (λ b. 0) (λ b l. refl))
sum_swap (suc n) m f =
    let i = sum_swap n m f in
    let j = sum_both m (λ b. sum_below n (λ a. f a b)) (f n) in
    omega arith
