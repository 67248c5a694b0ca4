-- two corpses of one client in a list that is in order
use Rattle.std.proofs.Common.{◌≡◌, zero, suc, List, [], ◌∷◌, ◌++◌, append_assoc, ap, ◌∙◌, subst, arith}
use Rattle.std.proofs.lemmas.List.Elements.{All-contains, Contains-append_right}
use Rattle.std.specs.List.{Contains}
use Rattle.shm_morgue.specs.{declared.rule.Taken.Taken, Entries.{IsBefore, IsCarried, IsInOrder, Puts, Takes}}
use Rattle.shm_outcomes.proofs.Elements.{contains_first}

-- one behind the other
in_order : (xs between after : List Taken) (x y : Taken) → IsInOrder (xs ++ x ∷ between ++ y ∷ after) → IsBefore x y
in_order [] between after x y h = All-contains (IsBefore x) (between ++ y ∷ after) y h.0 (Contains-append_right between (y ∷ after) y (contains_first y after))
in_order (z ∷ zs) between after x y h = in_order zs between after x y h.1

regrouped : (xs between after left : List Taken) (x y : Taken) → (xs ++ x ∷ between ++ y ∷ after) ++ left ≡ xs ++ x ∷ between ++ y ∷ (after ++ left)
regrouped [] between after left x y = ap (λ (zs : List Taken). x ∷ zs) (append_assoc between (y ∷ after) left)
regrouped (z ∷ zs) between after left x y = ap (λ (ws : List Taken). z ∷ ws) (regrouped zs between after left x y)

-- one in the first part and one in the last
across : (xs ys : List Taken) (x y : Taken) → IsInOrder (xs ++ ys) → Contains xs x → Contains ys y → IsBefore x y
across [] ys x y h here there = absurd (let l = here.1 in omega arith)
across (z ∷ zs) ys x y h (zero, low, is) there = subst (λ (w : Taken). IsBefore w y) is (All-contains (IsBefore z) (zs ++ ys) y h.0 (Contains-append_right zs ys y there))
across (z ∷ zs) ys x y h (suc k, low, is) there = across zs ys x y h.1 (k, (let l = low in omega arith), is) there

-- the last part
last_part : (xs ys : List Taken) → IsInOrder (xs ++ ys) → IsInOrder ys
last_part [] ys h = h
last_part (x ∷ xs) ys h = last_part xs ys h.1

module _ (porters : List Puts) (medics : List Takes) (left : List Taken) (h : IsCarried porters medics left) (m : Takes) (at : Contains medics m) where
  of_medic : IsInOrder (m.entries ++ left)
  of_medic = All-contains (λ (x : Takes). IsInOrder (x.entries ++ left)) medics m h.order at

  pub taken_in_order : (before between after : List Taken) (x y : Taken) → m.entries ≡ before ++ x ∷ between ++ y ∷ after → IsBefore x y
  taken_in_order before between after x y is =
      let all : m.entries ++ left ≡ before ++ x ∷ between ++ y ∷ (after ++ left) = ap (λ (zs : List Taken). zs ++ left) is ∙ regrouped before between after left x y in
      in_order before between (after ++ left) x y (subst IsInOrder all of_medic)

  pub left_behind : (x y : Taken) → Contains m.entries x → Contains left y → IsBefore x y
  left_behind x y here there = across m.entries left x y of_medic here there

  pub left_in_order : (before between after : List Taken) (x y : Taken) → left ≡ before ++ x ∷ between ++ y ∷ after → IsBefore x y
  left_in_order before between after x y is = in_order before between after x y (subst IsInOrder is (last_part m.entries left of_medic))
