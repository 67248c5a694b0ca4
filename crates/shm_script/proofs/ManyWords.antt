-- Reading words one after the other, as loops do.
use Rattle.std.proofs.Common.{◌≡◌, ℕ, List, [], ◌∷◌, ◌++◌, Option, Some, None, refl, sym, ap, ◌∙◌, append_assoc}
use Rattle.std.proofs.lemmas.List.{append-nil}
use Rattle.std.specs.{List.slice_split, Prelude.◌==◌}
use Rattle.shm_script.specs.{declared.raw.RawItem.RawItem, Numbers.number_of}
use Rattle.shm_script.specs.Shapes.{both, given, numbers_of, items_of, item_from}

-- what was read before, and what is read still
abbrev pub with_front : {A : Type 0} → List A → Option (List A) → Option (List A)
with_front front read = given (λ xs. front ++ xs) read

pub regroup : {A : Type 0} (front : List A) (x : A) (read : Option (List A)) → with_front front (both (λ y ys. y ∷ ys) (Some x) read) ≡ with_front (front ++ x ∷ []) read
regroup front x (Some xs) = ap Some (sym (append_assoc front (x ∷ []) xs))
regroup front x None = refl

pub nothing : {A : Type 0} (front : List A) (read : Option (List A)) → with_front front (both (λ y ys. y ∷ ys) None read) ≡ None
nothing front (Some xs) = refl
nothing front None = refl

pub numbers_go_on : (front : List (Option ℕ)) (words : List (List ℕ)) (word : List ℕ) (n : Option ℕ) (after : List (List ℕ)) (all : Option (List (Option ℕ))) → words ≡ word ∷ after → Some n ≡ number_of word
    → with_front front (numbers_of words) ≡ all → with_front (front ++ n ∷ []) (numbers_of after) ≡ all
unfolding numbers_of
numbers_go_on front words word n after all is one so_far =
    let step : with_front front (numbers_of words) ≡ with_front (front ++ n ∷ []) (numbers_of after) = rw (is, ← one) (regroup front n (numbers_of after)) in
    sym step ∙ so_far

pub numbers_fail : (front : List (Option ℕ)) (words : List (List ℕ)) (word : List ℕ) (after : List (List ℕ)) (all : Option (List (Option ℕ))) → words ≡ word ∷ after → None ≡ number_of word
    → with_front front (numbers_of words) ≡ all → all ≡ None
unfolding numbers_of
numbers_fail front words word after all is one so_far =
    let step : with_front front (numbers_of words) ≡ None = rw (is, ← one) (nothing front (numbers_of after)) in
    sym so_far ∙ step

pub numbers_end : (front : List (Option ℕ)) (words : List (List ℕ)) (all : Option (List (Option ℕ))) → words ≡ [] → with_front front (numbers_of words) ≡ all → all ≡ Some front
unfolding numbers_of
numbers_end front words all is so_far = sym so_far ∙ rw is (ap Some (append-nil front))

pub items_go_on : (front : List RawItem) (words : List (List ℕ)) (word : List ℕ) (n : RawItem) (after : List (List ℕ)) (all : Option (List RawItem)) → words ≡ word ∷ after → Some n ≡ item_from (slice_split (λ b. b == 58) word)
    → with_front front (items_of words) ≡ all → with_front (front ++ n ∷ []) (items_of after) ≡ all
unfolding items_of
items_go_on front words word n after all is one so_far =
    let step : with_front front (items_of words) ≡ with_front (front ++ n ∷ []) (items_of after) = rw (is, ← one) (regroup front n (items_of after)) in
    sym step ∙ so_far

pub items_fail : (front : List RawItem) (words : List (List ℕ)) (word : List ℕ) (after : List (List ℕ)) (all : Option (List RawItem)) → words ≡ word ∷ after → None ≡ item_from (slice_split (λ b. b == 58) word)
    → with_front front (items_of words) ≡ all → all ≡ None
unfolding items_of
items_fail front words word after all is one so_far =
    let step : with_front front (items_of words) ≡ None = rw (is, ← one) (nothing front (items_of after)) in
    sym so_far ∙ step

pub items_end : (front : List RawItem) (words : List (List ℕ)) (all : Option (List RawItem)) → words ≡ [] → with_front front (items_of words) ≡ all → all ≡ Some front
unfolding items_of
items_end front words all is so_far = sym so_far ∙ rw is (ap Some (append-nil front))
