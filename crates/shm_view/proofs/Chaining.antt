-- how chains go on
use Rattle.std.proofs.Common.{◌≡◌, ◌≢◌, ℕ, zero, suc, ◌+◌, ◌-◌, ◌<◌, max, eqb, List, slice_index, refl, subst, ap, ◌∙◌, sym, add-one, arith}
use Rattle.std.proofs.lemmas.Bool.{ne_eqb, cond-false}
use Rattle.shm_view.specs.Chains.{chain_length, greatest_below}

-- nothing follows from 0 on
pub chain_end : (ws : List ℕ) (m : ℕ) → chain_length ws m 0 ≡ 0
chain_end ws zero = refl
chain_end ws (suc m) = refl

-- from an entry on one more follows than from the next one on
pub chain_next : (ws : List ℕ) (m k e : ℕ) → m ≡ k + 1 → e ≢ 0 → chain_length ws m e ≡ chain_length ws k (slice_index ws (e + 2)) + 1
chain_next ws m k e is ne =
    let P : ℕ → Type 0 = λ n. chain_length ws n e ≡ chain_length ws k (slice_index ws (e + 2)) + 1 in
    subst P (sym (is ∙ add-one k)) (cond-false (eqb e 0) _ _ (ne_eqb e 0 ne))

-- what follows from the first entry on, after one step more
pub chain_step : (ws : List ℕ) (most k first e next : ℕ) → k < most → e ≢ 0 → next ≡ slice_index ws (e + 2) → chain_length ws most first ≡ chain_length ws (most - k) e + k → chain_length ws most first ≡ chain_length ws (most - (k + 1)) next + (k + 1)
chain_step ws most k first e next l ne is h =
    let n = chain_next ws (most - k) (most - (k + 1)) e (omega arith) ne in
    let w : chain_length ws (most - (k + 1)) next ≡ chain_length ws (most - (k + 1)) (slice_index ws (e + 2)) = ap (chain_length ws (most - (k + 1))) is in
    omega (arith, h, n, w)

-- the greatest of one more number
pub greatest_more : (f : ℕ → ℕ) (n : ℕ) → greatest_below (n + 1) f ≡ max (greatest_below n f) (f n)
greatest_more f n = ap (λ k. greatest_below k f) (add-one n)
