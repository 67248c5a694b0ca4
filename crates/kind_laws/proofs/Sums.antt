-- sums over the numbers below a number, where one term changes
use Rattle.std.proofs.{Common.{◌≡◌, ◌≢◌, ℕ, zero, suc, inl, inr, ◌+◌, ◌<◌, refl, ap, arith}, lemmas.Bool.cases_eq}
use Rattle.shm_graph.specs.References.{sum_below}

-- two functions that agree have one sum
pub sum_same : (n : ℕ) (f f' : ℕ → ℕ) → ((k : ℕ) → k < n → f' k ≡ f k) → sum_below n f' ≡ sum_below n f
sum_same zero f f' h = refl
sum_same (suc n) f f' h =
    let e = sum_same n f f' (λ k l. h k (omega arith)) in
    let k = h n (omega arith) in
    omega arith

-- two functions that agree but at a: the sum changes by what changes there
pub sum_but : (n a : ℕ) (f f' : ℕ → ℕ) → a < n → ((k : ℕ) → k < n → k ≢ a → f' k ≡ f k) → sum_below n f' + f a ≡ sum_below n f + f' a
sum_but zero a f f' l h = absurd (omega arith)
sum_but (suc n) a f f' l h =
    elim (cases_eq n a) [
      | inl e ↦
          (let s = sum_same n f f' (λ k q. h k (omega arith) (omega arith)) in
          let x : f' n ≡ f' a = ap f' e in
          let y : f n ≡ f a = ap f e in
          omega arith)
      | inr d ↦
          (let s = sum_but n a f f' (omega arith) (λ k q. h k (omega arith)) in
          let x = h n (omega arith) d in
          omega arith)
    ]
