-- Items and lives in range one after the other, as loops go over them.
use Rattle.std.proofs.Common.{◌≡◌, ℕ, ◌+◌, ◌-◌, ◌<◌, ◌≤◌, List, [], ◌∷◌, ◌++◌, length, get_or, drop, Option, Some, None, refl, sym, ap, ◌∙◌, append_assoc, add-one, drop-cons}
use Rattle.std.proofs.{Math.ListN.drop_of_length-le, lemmas.List.append-nil}
use Rattle.shm_script.specs.{declared.{line.Item.Item, raw.RawItem.RawItem}, Shapes.given}
use Rattle.shm_script.specs.Faults.{before_rest, between, below, turns_fit, items_fit, life_fit}
use Rattle.shm_script.proofs.ManyWords.{with_front, regroup, nothing}

pub at_place : {A : Type 0} (xs : List A) (i : ℕ) (d : A) → i < length xs → drop i xs ≡ get_or xs i d ∷ drop (i + 1) xs
at_place xs i d inside = drop-cons xs i d inside ∙ ap (λ n. get_or xs i d ∷ drop n xs) (sym (add-one i))

module _ (clients : ℕ) (front : List Item) (items : List RawItem) (i : ℕ) (x : RawItem) (all : Option (List Item)) (at : drop i items ≡ x ∷ drop (i + 1) items) (so_far : with_front front (items_fit clients (drop i items)) ≡ all) where
  pub item_in : (c t : ℕ) → Some c ≡ below clients x.client → Some t ≡ turns_fit x.turns → with_front (front ++ record { client = c; turns = t } ∷ []) (items_fit clients (drop (i + 1) items)) ≡ all
  unfolding items_fit
  item_in c t hc ht =
      let step : with_front front (items_fit clients (drop i items)) ≡ with_front (front ++ record { client = c; turns = t } ∷ []) (items_fit clients (drop (i + 1) items)) =
      rw (at, ← hc, ← ht) (regroup front (record { client = c; turns = t }) (items_fit clients (drop (i + 1) items))) in
      sym step ∙ so_far

  pub item_client_out : None ≡ below clients x.client → all ≡ None
  unfolding items_fit
  item_client_out hc =
      let step : with_front front (items_fit clients (drop i items)) ≡ None = rw (at, ← hc) (nothing front (items_fit clients (drop (i + 1) items))) in
      sym so_far ∙ step

  pub item_turns_out : (c : ℕ) → Some c ≡ below clients x.client → None ≡ turns_fit x.turns → all ≡ None
  unfolding items_fit
  item_turns_out c hc ht =
      let step : with_front front (items_fit clients (drop i items)) ≡ None = rw (at, ← hc, ← ht) (nothing front (items_fit clients (drop (i + 1) items))) in
      sym so_far ∙ step

pub items_out : (clients : ℕ) (front : List Item) (items : List RawItem) (i : ℕ) (all : Option (List Item)) → length items ≤ i → with_front front (items_fit clients (drop i items)) ≡ all → all ≡ Some front
unfolding items_fit
items_out clients front items i all past so_far = sym so_far ∙ rw (drop_of_length-le items past) (ap Some (append-nil front))

one_more : (front : List ℕ) (n : ℕ) (read : Option (List ℕ)) → with_front front (given (λ ns. n ∷ ns) read) ≡ with_front (front ++ n ∷ []) read
one_more front n (Some xs) = ap Some (sym (append_assoc front (n ∷ []) xs))
one_more front n None = refl

module _ (left : ℕ) (front : List ℕ) (numbers : List (Option ℕ)) (i : ℕ) (x : Option ℕ) (all : Option (List ℕ)) (at : drop i numbers ≡ x ∷ drop (i + 1) numbers) (so_far : with_front front (life_fit left (drop i numbers)) ≡ all) where
  pub life_in : (n : ℕ) → Some n ≡ between 1 left x → with_front (front ++ n ∷ []) (life_fit (left - n) (drop (i + 1) numbers)) ≡ all
  unfolding life_fit
  life_in n hn =
      let step : with_front front (life_fit left (drop i numbers)) ≡ with_front (front ++ n ∷ []) (life_fit (left - n) (drop (i + 1) numbers)) = rw at (ap (λ o. with_front front (before_rest o (λ m. life_fit (left - m) (drop (i + 1) numbers)))) (sym hn) ∙ one_more front n (life_fit (left - n) (drop (i + 1) numbers))) in
      sym step ∙ so_far

  pub life_out : None ≡ between 1 left x → all ≡ None
  unfolding life_fit
  life_out hn =
      let step : with_front front (life_fit left (drop i numbers)) ≡ None = rw at (ap (λ o. with_front front (before_rest o (λ m. life_fit (left - m) (drop (i + 1) numbers)))) (sym hn)) in
      sym so_far ∙ step

pub lives_out : (left : ℕ) (front : List ℕ) (numbers : List (Option ℕ)) (i : ℕ) (all : Option (List ℕ)) → length numbers ≤ i → with_front front (life_fit left (drop i numbers)) ≡ all → all ≡ Some front
unfolding life_fit
lives_out left front numbers i all past so_far = sym so_far ∙ rw (drop_of_length-le numbers past) (ap Some (append-nil front))
