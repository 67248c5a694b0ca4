-- sums of kinds grow number by number
use Rattle.std.proofs.Common.{◌≡◌, ◌≢◌, ℕ, ◌+◌, ◌%◌, ◌^◌, ◌<◌, ◌≤◌, List, length, get_or, set, length-set, get_or-set_same, get_or-set_other, inl, inr, refl, subst, ap, ◌∙◌, sym, arith}
use Rattle.std.proofs.lemmas.Bool.{cases_eq, cases_lt, eq-eqb, ne_eqb}
use Rattle.std.specs.Prelude.{Option, Some, None}
use Rattle.shm_graph.specs.References.{one_if}
use Rattle.shm_graph.proofs.Spots.Summing.{sum_below-one_more}
use Rattle.shm_audit.proofs.Tallying.{ones_most}
use Rattle.shm_view.specs.Sums.{AreSums, is_kind}

-- a number of no kind changes no sum
pub sums_none : (kind : ℕ → Option ℕ) (n : ℕ) (sums : List ℕ) → kind n ≡ None → AreSums kind n sums → AreSums kind (n + 1) sums
sums_none kind n sums e h = λ i l.
    let m = sum_below-one_more (λ a. one_if (is_kind (kind a) i)) n in
    let z : one_if (is_kind (kind n) i) ≡ 0 = ap (λ k. one_if (is_kind k i)) e in
    let s = h i l in
    omega arith

-- nor does one of a kind that has no place
pub sums_past : (kind : ℕ → Option ℕ) (n k : ℕ) (sums : List ℕ) → kind n ≡ Some k → length sums ≤ k → AreSums kind n sums → AreSums kind (n + 1) sums
sums_past kind n k sums e p h = λ i l.
    let m = sum_below-one_more (λ a. one_if (is_kind (kind a) i)) n in
    let o : k ≢ i = (λ x. absurd (omega (arith, x, p, l))) in
    let z : one_if (is_kind (kind n) i) ≡ 0 = ap (λ y. one_if (is_kind y i)) e ∙ ap one_if (ne_eqb k i o) in
    let s = h i l in
    omega arith

-- one of another kind raises the sum of its kind
pub sums_one : (kind : ℕ → Option ℕ) (n k v : ℕ) (sums : List ℕ) → kind n ≡ Some k → k < length sums → n + 1 < 2 ^ 32 → v ≡ (get_or sums k 0 + 1) % 2 ^ 32 → AreSums kind n sums → AreSums kind (n + 1) (set sums k v)
sums_one kind n k v sums e p small is h = λ i l.
    let m = sum_below-one_more (λ a. one_if (is_kind (kind a) i)) n in
    let len = length-set sums k v in
    let j : i < length sums = omega (arith, l, len) in
    let s = h i j in
    elim (cases_eq k i) [
      | inl x ↦
          (let z : one_if (is_kind (kind n) i) ≡ 1 = ap (λ y. one_if (is_kind y i)) e ∙ ap one_if (eq-eqb k i x) in
          let most = ones_most (λ a. is_kind (kind a) i) n in
          let g : get_or (set sums k v) i 0 ≡ v = ap (λ y. get_or (set sums k v) y 0) (sym x) ∙ get_or-set_same sums k v 0 p in
          let w : get_or sums k 0 ≡ get_or sums i 0 = ap (λ y. get_or sums y 0) x in
          omega (arith, is, small, most, s, z, m, g, w))
      | inr x ↦
          (let z : one_if (is_kind (kind n) i) ≡ 0 = ap (λ y. one_if (is_kind y i)) e ∙ ap one_if (ne_eqb k i x) in
          let g : get_or (set sums k v) i 0 ≡ get_or sums i 0 = get_or-set_other sums k i v 0 (λ y. x (sym y)) in
          omega (arith, s, z, m, g))
    ]

-- what a number that is looked at does to the sums
pub sums_next : (kinds : ℕ → Option ℕ) (n k : ℕ) (old new : List ℕ) → kinds n ≡ Some k → n + 1 < 2 ^ 32 → (k < length old → new ≡ set old k ((get_or old k 0 + 1) % 2 ^ 32)) → (length old ≤ k → new ≡ old) → AreSums kinds n old → AreSums kinds (n + 1) new
sums_next kinds n k old new e small counted past h =
    elim (cases_lt k (length old)) [
      | inl l ↦ subst (λ xs. AreSums kinds (n + 1) xs) (sym (counted l)) (sums_one kinds n k ((get_or old k 0 + 1) % 2 ^ 32) old e l small refl h)
      | inr l ↦ subst (λ xs. AreSums kinds (n + 1) xs) (sym (past l)) (sums_past kinds n k old e l h)
    ]
