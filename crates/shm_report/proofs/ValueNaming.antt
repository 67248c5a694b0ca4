-- the numbers of value blocks
use Rattle.std.proofs.Common.{◌≡◌, ℕ, zero, suc, ◌+◌, ◌<◌, ◌||◌, Bool, List, [], ◌∷◌, ◌++◌, length, length-append, Option, get_or, cond, eqb, is_some, not, true, false, Some, None, sym, ap, ◌∙◌, refl, inl, inr, arith}
use Rattle.std.proofs.lemmas.Bool.{cases_Bool, eq-eqb, ne_eqb, cases_eq, cases_order, cond-true, cond-false, false≢true, cond_both, or_parts, or_left, or_right}
use Rattle.std.proofs.lemmas.{Bool.Decides.nat_tests, List.Folds.{list_any-append, position_or_len_push}}
use Rattle.std.specs.{List.{list_any, position_or_len}, Ordering.{nat_cmp, is_eq}}
use Rattle.shm_report.specs.{Report.{Row, named_from, value_number}, ValueNames.{with_name, number_in}}

eqb-sym : (a b : ℕ) → eqb a b ≡ eqb b a
eqb-sym a b = grind (arith, nat_tests)

-- a number that isn't in a list has its length for its place
place_none : (named : List ℕ) (v : ℕ) → list_any (eqb v) named ≡ false → position_or_len (λ x. eqb x v) named ≡ length named
place_none [] v h = refl
place_none (x ∷ xs) v h =
    let p = or_parts (eqb v x) (list_any (eqb v) xs) h in
    let n : not (eqb x v) ≡ true = ap not (eqb-sym x v ∙ p.0) in
    let t = place_none xs v p.1 in
    cond-true (not (eqb x v)) _ 0 n ∙ omega arith

place_some : (named : List ℕ) (v : ℕ) → list_any (eqb v) named ≡ true → position_or_len (λ x. eqb x v) named < length named
place_some [] v h = absurd (false≢true h)
place_some (x ∷ xs) v h =
    elim (cases_Bool (eqb x v)) [
      | inl e ↦ (let t = cond-false (not (eqb x v)) (1 + position_or_len (λ y. eqb y v) xs) 0 (ap not e) in omega arith)
      | inr e ↦ (let t = cond-true (not (eqb x v)) (1 + position_or_len (λ y. eqb y v) xs) 0 (ap not e) in
          let r : list_any (eqb v) xs ≡ true = ap (λ b. b || list_any (eqb v) xs) (sym (eqb-sym v x ∙ e)) ∙ h in
          let l = place_some xs v r in
          omega arith)
    ]

-- the numbers once one more block is named
number_in_here : (named : List ℕ) (y q : ℕ) → list_any (eqb y) named ≡ false → y ≡ q → number_in (named ++ y ∷ []) q ≡ Some (length named + 1)
number_in_here named y q new e =
    let h : list_any (eqb q) (named ++ y ∷ []) ≡ true = list_any-append (eqb q) named (y ∷ []) ∙ or_right (list_any (eqb q) named) _ (or_left (eqb q y) false (eq-eqb q y (sym e))) in
    let p = place_none named q (ap (λ z. list_any (eqb z) named) (sym e) ∙ new) in
    let z : length named + cond (eqb y q) 0 1 ≡ length named = ap (λ n. length named + n) (cond-true (eqb y q) 0 1 (eq-eqb y q e)) ∙ omega arith in
    let t = position_or_len_push (λ x. eqb x q) named y ∙ (cond-true (eqb (position_or_len (λ x. eqb x q) named) (length named)) _ _ (eq-eqb _ _ p) ∙ z) in
    cond-true (list_any (eqb q) (named ++ y ∷ [])) _ None h ∙ ap (λ n. Some (n + 1)) t

or_false : (b : Bool) → (b || false) ≡ b
or_false true = refl
or_false false = refl

number_in_apart : (named : List ℕ) (y q : ℕ) → (y ≡ q → ⊥) → number_in (named ++ y ∷ []) q ≡ number_in named q
number_in_apart named y q n =
    let f : eqb q y ≡ false = ne_eqb q y (λ e. n (sym e)) in
    let a : list_any (eqb q) (named ++ y ∷ []) ≡ list_any (eqb q) named = list_any-append (eqb q) named (y ∷ []) ∙ (ap (λ b. list_any (eqb q) named || (b || false)) f ∙ or_false (list_any (eqb q) named)) in
    elim (cases_Bool (list_any (eqb q) named)) [
      | inl h ↦ (let l = place_some named q h in
          let o : eqb (position_or_len (λ x. eqb x q) named) (length named) ≡ false = ne_eqb _ _ (λ e. omega arith) in
          let t = position_or_len_push (λ x. eqb x q) named y ∙ cond-false (eqb (position_or_len (λ x. eqb x q) named) (length named)) _ _ o in
          cond-true (list_any (eqb q) (named ++ y ∷ [])) _ None (a ∙ h) ∙ (ap (λ k. Some (k + 1)) t ∙ sym (cond-true (list_any (eqb q) named) (Some (value_number named q)) None h)))
      | inr h ↦ cond-false (list_any (eqb q) (named ++ y ∷ [])) _ None (a ∙ h) ∙ sym (cond-false (list_any (eqb q) named) (Some (value_number named q)) None h)
    ]

pub number_in_push : (named : List ℕ) (y q : ℕ) → list_any (eqb y) named ≡ false → number_in (named ++ y ∷ []) q ≡ cond (eqb y q) (Some (length named + 1)) (number_in named q)
number_in_push named y q new =
    elim (cases_eq y q) [
      | inl e ↦ number_in_here named y q new e ∙ sym (cond-true (eqb y q) _ _ (eq-eqb y q e))
      | inr n ↦ number_in_apart named y q n ∙ sym (cond-false (eqb y q) _ _ (ne_eqb y q n))
    ]

-- a block that has no number isn't named
pub not_named : (named : List ℕ) (v : ℕ) → is_some (number_in named v) ≡ false → list_any (eqb v) named ≡ false
not_named named v h =
    elim (cases_Bool (list_any (eqb v) named)) [
      | inl e ↦ absurd (false≢true (sym h ∙ ap is_some (cond-true (list_any (eqb v) named) (Some (value_number named v)) None e)))
      | inr e ↦ e
    ]

pub is_named : (named : List ℕ) (v : ℕ) → list_any (eqb v) named ≡ true → number_in named v ≡ Some (value_number named v)
is_named named v e = cond-true (list_any (eqb v) named) (Some (value_number named v)) None e

with_name_stays : (seen : List ℕ) (y v : ℕ) → list_any (eqb v) seen ≡ true → list_any (eqb v) (with_name seen y) ≡ true
with_name_stays seen y v h =
    cond_both (list_any (eqb y) seen) seen (seen ++ y ∷ []) (λ l. list_any (eqb v) l ≡ true) (λ _. h) (λ _. list_any-append (eqb v) seen (y ∷ []) ∙ or_left (list_any (eqb v) seen) _ h)

with_name_has : (seen : List ℕ) (y : ℕ) → list_any (eqb y) (with_name seen y) ≡ true
with_name_has seen y =
    cond_both (list_any (eqb y) seen) seen (seen ++ y ∷ []) (λ l. list_any (eqb y) l ≡ true) (λ e. e) (λ _. list_any-append (eqb y) seen (y ∷ []) ∙ or_right (list_any (eqb y) seen) _ (or_left (eqb y y) false (eq-eqb y y refl)))

-- rows name their values
pub named_stay : (rows : List Row) (seen : List ℕ) (v : ℕ) → list_any (eqb v) seen ≡ true → list_any (eqb v) (named_from seen rows) ≡ true
named_stay [] seen v h = h
named_stay (r ∷ rows) seen v h = named_stay rows (with_name seen r.value) v (with_name_stays seen r.value v h)

pub named_at : (rows : List Row) (seen : List ℕ) (i : ℕ) (r : Row) → i < length rows → list_any (eqb (get_or rows i r).value) (named_from seen rows) ≡ true
named_at [] seen i r l = absurd (omega arith)
named_at (s ∷ rows) seen zero r l = named_stay rows (with_name seen s.value) s.value (with_name_has seen s.value)
named_at (s ∷ rows) seen (suc i) r l = named_at rows (with_name seen s.value) i r (omega arith)

same_test : (a b : ℕ) → is_eq (nat_cmp a b) ≡ eqb a b
same_test a b =
    elim (cases_order a b) [
      | inl e ↦ grind (arith, nat_tests)
      | inr o ↦ elim o [
        | inl l ↦ grind (arith, nat_tests)
        | inr l ↦ grind (arith, nat_tests)
      ]
    ]

-- a map of numbers, with the number of one more block
pub numbered_push : (named more : List ℕ) (y n q : ℕ) (old new : Option ℕ) → more ≡ named ++ y ∷ [] → n ≡ length more → list_any (eqb y) named ≡ false → old ≡ number_in named q → new ≡ cond (is_eq (nat_cmp y q)) (Some n) old → new ≡ number_in more q
numbered_push named more y n q old new grown long fresh was now =
    let l = length-append named (y ∷ []) in
    let e : n ≡ length named + 1 = omega (arith, ap length grown) in
    let t : is_eq (nat_cmp y q) ≡ eqb y q = same_test y q in
    now ∙ (ap (λ b. cond b (Some n) old) t ∙ (ap (λ k. cond (eqb y q) (Some k) old) e ∙ (ap (cond (eqb y q) (Some (length named + 1))) was ∙ (sym (number_in_push named y q fresh) ∙ ap (λ l. number_in l q) (sym grown)))))
