-- the keys of a search tree
use Rattle.std.proofs.Common.{◌≡◌, ℕ, ◌<◌, true, List, [], ◌∷◌, ◌++◌, length, refl, sym, ap, ◌∙◌, subst, arith, length-append, inl, inr}
use Rattle.std.proofs.lemmas.Bool.{Decides.nat_tests, cases_lt}
use Rattle.std.proofs.lemmas.List.Elements.{Contains-append_left, Contains-append_right}
use Rattle.std.specs.{Prelude.{Option, Some}, List.{AllByRecursion, Contains}, Option.is_some}
use mathlib.Core.Logic.{dite}
use native.Mathlib.Decide.{ℕ_discrete}
use Rattle.shm_tree.specs.Trees.{AreAbove, AreBelow, Empty, IsSearch, Node, Tree, found, size}
use Rattle.shm_outcomes.specs.Maps.{AreRising, HasKeys}
use Rattle.shm_outcomes.proofs.Elements.{all_as, contains_first, contains_later}

-- in their order
abbrev keys : Tree → List ℕ
keys Empty = []
keys (Node k n l r) = keys l ++ k ∷ keys r

many : (t : Tree) → length (keys t) ≡ size t
many Empty = refl
many (Node k n l r) = let a = many l in let b = many r in let c = length-append (keys l) (k ∷ keys r) in omega (arith, a, b, c)

-- ---- what holds of each

all_parts : {A : Type 0} (P : A → Type 0) (xs ys : List A) → AllByRecursion P xs → AllByRecursion P ys → AllByRecursion P (xs ++ ys)
all_parts P [] ys h g = g
all_parts P (x ∷ xs) ys h g = (h.0, all_parts P xs ys h.1 g)

all_both : {A : Type 0} (P Q R : A → Type 0) → ((x : A) → P x → Q x → R x) → (xs : List A) → AllByRecursion P xs → AllByRecursion Q xs → AllByRecursion R xs
all_both P Q R f [] h g = tt
all_both P Q R f (x ∷ xs) h g = (f x h.0 g.0, all_both P Q R f xs h.1 g.1)

abbrev Below : ℕ → ℕ → Type 0
Below k j = j < k

abbrev Above : ℕ → ℕ → Type 0
Above k j = k < j

all_below : (k : ℕ) (t : Tree) → AreBelow k t → AllByRecursion (Below k) (keys t)
all_below k Empty h = tt
all_below k (Node j n l r) h = all_parts (Below k) (keys l) (j ∷ keys r) (all_below k l h.1) (h.0, all_below k r h.2)

all_above : (k : ℕ) (t : Tree) → AreAbove k t → AllByRecursion (Above k) (keys t)
all_above k Empty h = tt
all_above k (Node j n l r) h = all_parts (Above k) (keys l) (j ∷ keys r) (all_above k l h.1) (h.0, all_above k r h.2)

-- ---- they rise

rising_parts : (k : ℕ) (xs ys : List ℕ) → AreRising xs → AreRising ys → AllByRecursion (Below k) xs → AllByRecursion (Above k) ys → AreRising (xs ++ k ∷ ys)
rising_parts k [] ys up on low high = (high, on)
rising_parts k (x ∷ xs) ys up on low high =
    (all_parts (Above x) xs (k ∷ ys) up.0 (low.0, all_as (Above k) (Above x) (λ j later. let here = low.0 in omega (arith, later, here)) ys high), rising_parts k xs ys up.1 on low.1 high)

rising : (t : Tree) → IsSearch t → AreRising (keys t)
rising Empty h = tt
rising (Node k n l r) h = rising_parts k (keys l) (keys r) (rising l h.2) (rising r h.3) (all_below k l h.0) (all_above k r h.1)

-- ---- each has a number, and each that has one is one of them

found_here : (k n : ℕ) (l r : Tree) → found k (Node k n l r) ≡ Some n
found_here k n l r = grind (arith, nat_tests)

found_low : (j k n : ℕ) (l r : Tree) → j < k → found j (Node k n l r) ≡ found j l
found_low j k n l r low = grind (arith, nat_tests, low)

found_high : (j k n : ℕ) (l r : Tree) → k < j → found j (Node k n l r) ≡ found j r
found_high j k n l r high = grind (arith, nat_tests, high)

abbrev Found : Tree → ℕ → Type 0
Found t k = is_some (found k t) ≡ true

all_found : (t : Tree) → IsSearch t → AllByRecursion (Found t) (keys t)
all_found Empty h = tt
all_found (Node k n l r) h =
    all_parts (Found (Node k n l r)) (keys l) (k ∷ keys r) (all_both (Below k) (Found l) (Found (Node k n l r)) (λ j low at. ap is_some (found_low j k n l r low) ∙ at) (keys l) (all_below k l h.0) (all_found l h.2))
    (ap is_some (found_here k n l r), all_both (Above k) (Found r) (Found (Node k n l r)) (λ j high at. ap is_some (found_high j k n l r high) ∙ at) (keys r) (all_above k r h.1) (all_found r h.3))

found_among : (t : Tree) (j : ℕ) → Found t j → Contains (keys t) j
found_among Empty j at = absurd (cc)
found_among (Node k n l r) j at =
    dite (ℕ_discrete j k)
    (λ same. Contains-append_right (keys l) (k ∷ keys r) j (subst (Contains (k ∷ keys r)) (sym same) (contains_first k (keys r))))
    (λ other. elim (cases_lt j k) [
      | inl low ↦ Contains-append_left (keys l) (k ∷ keys r) j (found_among l j (sym (ap is_some (found_low j k n l r low)) ∙ at))
      | inr le ↦ (let high : k < j = omega (arith, le, other) in Contains-append_right (keys l) (k ∷ keys r) j (contains_later k (keys r) j (found_among r j (sym (ap is_some (found_high j k n l r high)) ∙ at))))
    ])

-- a map that has the numbers of a search tree has as many keys
pub has_keys : (t : Tree) (f : ℕ → Option ℕ) → IsSearch t → ((k : ℕ) → found k t ≡ f k) → HasKeys (size t) f
has_keys t f search same =
    record {
      keys = keys t;
      many = many t;
      apart = rising t search;
      here = all_as (Found t) (λ k. is_some (f k) ≡ true) (λ k at. sym (ap is_some (same k)) ∙ at) (keys t) (all_found t search);
      all = λ k at. found_among t k (ap is_some (same k) ∙ at);
    }
