-- entries in the order of their puts
use Rattle.std.proofs.Common.{List, [], ◌∷◌, ◌++◌, subst, append_assoc}
use Rattle.std.proofs.lemmas.List.Elements.{All-nil, All-cons, All-head, All-tail, All-push, All-append}
use Rattle.std.specs.List.{All}
use Rattle.shm_morgue.specs.{declared.rule.Taken.Taken, Entries.{IsBefore, IsInOrder}}

module _ {X : Type 0} (P : X → Type 0) where
  pub all_front : (xs ys : List X) → All P (xs ++ ys) → All P xs
  all_front [] ys a = All-nil P
  all_front (x ∷ xs) ys a = All-cons P x xs (All-head P x (xs ++ ys) a) (all_front xs ys (All-tail P x (xs ++ ys) a))

  pub all_back : (xs ys : List X) → All P (xs ++ ys) → All P ys
  all_back [] ys a = a
  all_back (x ∷ xs) ys a = all_back xs ys (All-tail P x (xs ++ ys) a)

  pub all_without : (xs : List X) (y : X) (ys : List X) → All P (xs ++ y ∷ ys) → All P (xs ++ ys)
  all_without [] y ys a = All-tail P y ys a
  all_without (x ∷ xs) y ys a = All-cons P x (xs ++ ys) (All-head P x (xs ++ y ∷ ys) a) (all_without xs y ys (All-tail P x (xs ++ y ∷ ys) a))

-- y was put before x
abbrev pub Before : Taken → Taken → Type 0
Before x y = IsBefore y x

pub order_push : (xs : List Taken) (x : Taken) → IsInOrder xs → All (Before x) xs → IsInOrder (xs ++ x ∷ [])
order_push [] x o a = (All-nil (IsBefore x), tt)
order_push (y ∷ ys) x o a = (All-push (IsBefore y) ys x o.0 (All-head (Before x) y ys a), order_push ys x o.1 (All-tail (Before x) y ys a))

pub order_front : (xs ys : List Taken) → IsInOrder (xs ++ ys) → IsInOrder xs
order_front [] ys o = tt
order_front (x ∷ xs) ys o = (all_front (IsBefore x) xs ys o.0, order_front xs ys o.1)

pub order_without : (xs : List Taken) (y : Taken) (ys : List Taken) → IsInOrder (xs ++ y ∷ ys) → IsInOrder (xs ++ ys)
order_without [] y ys o = o.1
order_without (x ∷ xs) y ys o = (all_without (IsBefore x) xs y ys o.0, order_without xs y ys o.1)

-- what stands before one of them was put before it
pub order_before : (xs : List Taken) (y : Taken) (ys : List Taken) → IsInOrder (xs ++ y ∷ ys) → All (Before y) xs
order_before [] y ys o = All-nil (Before y)
order_before (x ∷ xs) y ys o = All-cons (Before y) x xs (All-head (IsBefore x) y ys (all_back (IsBefore x) xs (y ∷ ys) o.0)) (order_before xs y ys o.1)

-- x was put behind all that stands in these lists, and behind what is left
pub order_more : (m : List Taken) (ms : List (List Taken)) (left : List Taken) (x : Taken)
    → All (λ (l : List Taken). All (Before x) l) ((m ++ left) ∷ ms) → All (λ (l : List Taken). IsInOrder (l ++ left)) (m ∷ ms) → All (λ (l : List Taken). IsInOrder (l ++ (left ++ x ∷ []))) (m ∷ ms)
order_more m ms left x before order =
    let B : List Taken → Type 0 = λ l. All (Before x) l in
    let first : All (Before x) (m ++ left) = All-head B (m ++ left) ms before in
    let back : All (Before x) left = all_back (Before x) m left first in
    let more : (l : List Taken) → IsInOrder (l ++ left) → All (Before x) l → IsInOrder (l ++ (left ++ x ∷ [])) = λ l o b.
    subst IsInOrder (append_assoc l left (x ∷ [])) (order_push (l ++ left) x o (All-append (Before x) l left b back)) in
    All-cons (λ (l : List Taken). IsInOrder (l ++ (left ++ x ∷ []))) m ms
    (more m (All-head (λ (l : List Taken). IsInOrder (l ++ left)) m ms order) (all_front (Before x) m left first))
    (λ k d lt. more _ (All-tail (λ (l : List Taken). IsInOrder (l ++ left)) m ms order k d lt) (All-tail B (m ++ left) ms before k d lt))
