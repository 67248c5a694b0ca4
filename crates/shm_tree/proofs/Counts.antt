-- How many word steps of a life a call took.
use Rattle.std.proofs.Common.{◌≡◌, ℕ, ◌+◌, ◌≤◌, length, sym, ap, ◌∙◌, subst, arith}
use Rattle.std.specs.Prelude.{IfOk, Result, Ok, Err}
use Rattle.shm_words.specs.declared.geometry.Geometry.{Geometry}
use Rattle.shm_graph.specs.{declared.run.Start.Start, Asks.Trail}
use Rattle.shm_plain.specs.Pools.{Pool}

-- as many as its trail has pairs
pub taken_by : (tr us : Trail) (x y : ℕ) → tr ≡ us → y + length tr ≡ x → x ≡ y + length us
taken_by tr us x y is spent = sym spent ∙ ap (λ (t : Trail). y + length t) is

-- and so at most that many
pub taken_most : {A B : Type 0} (n x y : ℕ) (r : Result A B) → IfOk r (λ a. x ≡ y + n) → IfOk r (λ a. x ≤ y + n)
taken_most n x y (Ok a) e = omega arith
taken_most n x y (Err b) e = tt

-- in a pool of the same sizes
pub at_start : (n : Geometry → ℕ) (p m : Pool) (x y : ℕ) → m.start ≡ p.start → x ≤ y + n m.start.geometry → x ≤ y + n p.start.geometry
at_start n p m x y e h = subst (λ (s : Start). x ≤ y + n s.geometry) e h
