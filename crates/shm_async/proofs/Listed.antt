-- items of a list, of each of which something holds by its number
use Rattle.std.proofs.Common.{◌≡◌, ℕ, zero, suc, ◌+◌, ◌<◌, List, [], ◌∷◌, ◌++◌, length, refl, sym, ap, subst, arith}
use Rattle.std.specs.Prelude.{slice_index_or, slice_set}
use Rattle.shm_async.specs.Each.{EachFrom}

module _ {X : Type 0} (P : ℕ → X → Type 0) where
  pub each_at : (c i : ℕ) (xs : List X) (d : X) → EachFrom P c xs → i < length xs → P (c + i) (slice_index_or xs i d)
  each_at c i [] d h l = absurd (omega arith)
  each_at c zero (x ∷ xs) d h l = let z : c ≡ c + 0 = omega arith in subst (λ (n : ℕ). P n x) z h.0
  each_at c (suc i) (x ∷ xs) d h l = let z : suc c + i ≡ c + suc i = omega arith in subst (λ (n : ℕ). P n (slice_index_or xs i d)) z (each_at (suc c) i xs d h.1 (omega arith))

  pub at_each : (c : ℕ) (xs : List X) (d : X) → ((i : ℕ) → i < length xs → P (c + i) (slice_index_or xs i d)) → EachFrom P c xs
  at_each c [] d h = tt
  at_each c (x ∷ xs) d h = (
    let z : c + 0 ≡ c = omega arith in subst (λ (n : ℕ). P n x) z (h 0 (omega arith)),
    at_each (suc c) xs d (λ i l. let z : c + suc i ≡ suc c + i = omega arith in subst (λ (n : ℕ). P n (slice_index_or xs i d)) z (h (suc i) (omega arith))),
  )

  pub each_more : (c : ℕ) (xs : List X) (x : X) → EachFrom P c xs → P (c + length xs) x → EachFrom P c (xs ++ x ∷ [])
  each_more c [] x h one = let z : c + 0 ≡ c = omega arith in (subst (λ (n : ℕ). P n x) z one, tt)
  each_more c (y ∷ ys) x h one = let z : c + length (y ∷ ys) ≡ suc c + length ys = omega arith in (h.0, each_more (suc c) ys x h.1 (subst (λ (n : ℕ). P n x) z one))

  -- the item i, which is x, becomes m
  pub each_set : (c : ℕ) (xs : List X) (i : ℕ) (x m : X) → EachFrom P c xs → i < length xs → x ≡ slice_index_or xs i x → ((k : ℕ) → P k x → P k m) → EachFrom P c (slice_set xs i m)
  each_set c [] i x m h l is go = absurd (omega arith)
  each_set c (y ∷ ys) zero x m h l is go = (go c (subst (P c) (sym is) h.0), h.1)
  each_set c (y ∷ ys) (suc i) x m h l is go = (h.0, each_set (suc c) ys i x m h.1 (omega arith) is go)

  -- from the number 0 on
  pub first_at : (i : ℕ) (xs : List X) (d : X) → EachFrom P 0 xs → i < length xs → P i (slice_index_or xs i d)
  first_at i xs d h l = let z : 0 + i ≡ i = omega arith in subst (λ (n : ℕ). P n (slice_index_or xs i d)) z (each_at 0 i xs d h l)

  pub at_first : (xs : List X) (d : X) → ((i : ℕ) → i < length xs → P i (slice_index_or xs i d)) → EachFrom P 0 xs
  at_first xs d h = at_each 0 xs d (λ i l. let z : i ≡ 0 + i = omega arith in subst (λ (n : ℕ). P n (slice_index_or xs i d)) z (h i l))

pub one_more : {X : Type 0} (xs : List X) (x : X) → length (xs ++ x ∷ []) ≡ suc (length xs)
one_more [] x = refl
one_more (y ∷ ys) x = ap suc (one_more ys x)

-- the item that is there, whatever stands for one that is not
pub index_any : {X : Type 0} (xs : List X) (i : ℕ) (d e : X) → i < length xs → slice_index_or xs i d ≡ slice_index_or xs i e
index_any [] i d e l = absurd (omega arith)
index_any (x ∷ xs) zero d e l = refl
index_any (x ∷ xs) (suc i) d e l = index_any xs i d e (omega arith)
