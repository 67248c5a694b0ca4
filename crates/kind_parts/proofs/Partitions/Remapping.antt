-- the map of a partition: what it is once an entry is put in, is taken out or has another value
use Rattle.std.proofs.Common.{◌≡◌, ◌≢◌, ℕ, ◌%◌, sym, ap, ◌∙◌, subst, true, false, cond, eqb, List, [], ◌∷◌, ◌++◌, Option, Some, None, inl, inr}
use Rattle.std.proofs.lemmas.Bool.{cases_Bool, cases_eq, eq-eqb, ne_eqb, eqb-true, cond-true, cond-false}
use Rattle.shm_graph.specs.{declared.table.Entry.Entry, Tables.find, Views.at1}
use Rattle.shm_graph.proofs.Runs.Lists.{at1_here, at1_other}
use Rattle.kind_parts.proofs.Partitions.Relinking.{found_not, not_found, found_here, found_parts, AreKeyed, keyed_drop}

-- an entry of another key is passed by
pub found_past : (k : ℕ) (xs : List Entry) (e : Entry) (ys : List Entry) → e.key ≢ k → find k (xs ++ e ∷ ys) ≡ find k (xs ++ ys)
found_past k [] e ys n = not_found k e ys n
found_past k (x ∷ xs) e ys n = ap (cond (eqb x.key k) (Some (x.number, x.value))) (found_past k xs e ys n)

-- the entry of a key is found where no entry before it has the key
pub found_at : (k : ℕ) (xs : List Entry) (e e' : Entry) (ys : List Entry) → AreKeyed (xs ++ e ∷ ys) → e.key ≡ k → e'.key ≡ k → find k (xs ++ e' ∷ ys) ≡ Some (e'.number, e'.value)
found_at k [] e e' ys h i j = found_here k e' ys j
found_at k (x ∷ xs) e e' ys h i j =
    let q = found_not x.key e ys (found_parts x.key xs (e ∷ ys) h.0).1 in
    not_found k x (xs ++ e' ∷ ys) (λ s. q.0 (i ∙ sym s)) ∙ found_at k xs e e' ys h.1 i j

module _ (chains : ℕ → List Entry) (b : ℕ) where
  -- a choice by the key of an entry of this bucket, at a key of another one
  other_key : (e k : ℕ) (x y : Option (ℕ × ℕ)) → e % 16 ≡ b → b ≢ k % 16 → cond (eqb e k) x y ≡ y
  other_key e k x y placed o = cond-false (eqb e k) x y (ne_eqb e k (λ s. o (sym placed ∙ ap (λ q. q % 16) s)))

  -- one more entry
  pub map_in_one : (e : Entry) (k : ℕ) → e.key % 16 ≡ b → find k (at1 chains b (e ∷ chains b) (k % 16)) ≡ cond (eqb e.key k) (Some (e.number, e.value)) (find k (chains (k % 16)))
  map_in_one e k placed =
      elim (cases_eq b (k % 16)) [
        | inl s ↦ subst (λ q. find k (at1 chains b (e ∷ chains b) q) ≡ cond (eqb e.key k) (Some (e.number, e.value)) (find k (chains q))) s (ap (find k) (at1_here chains b (e ∷ chains b)))
        | inr o ↦ ap (find k) (at1_other chains b (e ∷ chains b) (k % 16) o) ∙ sym (other_key e.key k (Some (e.number, e.value)) (find k (chains (k % 16))) placed o)
      ]

  module _ (xs : List Entry) (e : Entry) (ys : List Entry) (is : chains b ≡ xs ++ e ∷ ys) (keys : AreKeyed (xs ++ e ∷ ys)) (placed : e.key % 16 ≡ b) where
    -- one entry less
    out_here : (k : ℕ) → find k (xs ++ ys) ≡ cond (eqb e.key k) None (find k (xs ++ e ∷ ys))
    out_here k =
        elim (cases_Bool (eqb e.key k)) [
          | inl y ↦ ap (λ q. find q (xs ++ ys)) (sym (eqb-true e.key k y)) ∙ ((keyed_drop xs e ys keys).1 ∙ sym (cond-true (eqb e.key k) None (find k (xs ++ e ∷ ys)) y))
          | inr n ↦ sym (found_past k xs e ys (λ s. (let q : false ≡ true = sym n ∙ eq-eqb e.key k s in cc))) ∙ sym (cond-false (eqb e.key k) None (find k (xs ++ e ∷ ys)) n)
        ]

    pub map_out : (k : ℕ) → find k (at1 chains b (xs ++ ys) (k % 16)) ≡ cond (eqb e.key k) None (find k (chains (k % 16)))
    map_out k =
        elim (cases_eq b (k % 16)) [
          | inl s ↦ subst (λ q. find k (at1 chains b (xs ++ ys) q) ≡ cond (eqb e.key k) None (find k (chains q))) s (ap (find k) (at1_here chains b (xs ++ ys)) ∙ (out_here k ∙ ap (λ es. cond (eqb e.key k) None (find k es)) (sym is)))
          | inr o ↦ ap (find k) (at1_other chains b (xs ++ ys) (k % 16) o) ∙ sym (other_key e.key k None (find k (chains (k % 16))) placed o)
        ]

    -- another value
    put_here : (e' : Entry) (k : ℕ) → e'.key ≡ e.key → find k (xs ++ e' ∷ ys) ≡ cond (eqb e.key k) (Some (e'.number, e'.value)) (find k (xs ++ e ∷ ys))
    put_here e' k same =
        elim (cases_Bool (eqb e.key k)) [
          | inl y ↦ found_at k xs e e' ys keys (eqb-true e.key k y) (same ∙ eqb-true e.key k y) ∙ sym (cond-true (eqb e.key k) (Some (e'.number, e'.value)) (find k (xs ++ e ∷ ys)) y)
          | inr n ↦ (let o : e.key ≢ k = (λ s. (let q : false ≡ true = sym n ∙ eq-eqb e.key k s in cc)) in
              found_past k xs e' ys (λ s. o (sym same ∙ s)) ∙ (sym (found_past k xs e ys o) ∙ sym (cond-false (eqb e.key k) (Some (e'.number, e'.value)) (find k (xs ++ e ∷ ys)) n)))
        ]

    pub map_put : (e' : Entry) (k : ℕ) → e'.key ≡ e.key → find k (at1 chains b (xs ++ e' ∷ ys) (k % 16)) ≡ cond (eqb e.key k) (Some (e'.number, e'.value)) (find k (chains (k % 16)))
    map_put e' k same =
        elim (cases_eq b (k % 16)) [
          | inl s ↦ subst (λ q. find k (at1 chains b (xs ++ e' ∷ ys) q) ≡ cond (eqb e.key k) (Some (e'.number, e'.value)) (find k (chains q))) s
              (ap (find k) (at1_here chains b (xs ++ e' ∷ ys)) ∙ (put_here e' k same ∙ ap (λ es. cond (eqb e.key k) (Some (e'.number, e'.value)) (find k es)) (sym is)))
          | inr o ↦ ap (find k) (at1_other chains b (xs ++ e' ∷ ys) (k % 16) o) ∙ sym (other_key e.key k (Some (e'.number, e'.value)) (find k (chains (k % 16))) placed o)
        ]
