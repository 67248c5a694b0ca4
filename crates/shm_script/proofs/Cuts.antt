-- The first piece of a list that is cut at each element of a kind.
use Rattle.std.proofs.Common.{◌≡◌, ℕ, ◌+◌, ◌<◌, ◌≤◌, Bool, true, false, cond, ltb, List, [], ◌∷◌, length, take, drop, Option, Some, None, MatchOption, refl, sym, ap, ◌∙◌, arith}
use Rattle.std.proofs.lemmas.{Bool.ltb-false, List.Splits.{slice_split_first, slice_split_none}}
use Rattle.std.proofs.lemmas.List.{Sums.fails_before_first, Elements.All-from_get_or}
use Rattle.std.specs.List.{position, slice_split, onto_first, position_or_len}
use borrow.Author.Tests.{ltb-true}
use Rattle.shm_script.specs.Shapes.{one_of, item_from, shape_by, shape_from}

-- what is cut off at the place that was found
abbrev pub IsCut : (ℕ → Bool) → List ℕ → Option ℕ → Type 0
IsCut p xs r = MatchOption r (slice_split p xs ≡ xs ∷ []) (λ i. (i < length xs) × (slice_split p xs ≡ take i xs ∷ slice_split p (drop (i + 1) xs)))

cut_by : (p : ℕ → Bool) (xs : List ℕ) (b : Bool) → ltb (position_or_len p xs) (length xs) ≡ b → (r : Option ℕ) → r ≡ cond b (Some (position_or_len p xs)) None → IsCut p xs r
cut_by p xs true e None is = absurd cc
cut_by p xs true e (Some i) is =
    let at : i ≡ position_or_len p xs = cc in
    let below : position_or_len p xs < length xs = ltb-true _ _ e in
    rw at (below, slice_split_first p xs 0 below)
cut_by p xs false e None is =
    let past : length xs ≤ position_or_len p xs = ltb-false _ _ e in
    slice_split_none p xs (All-from_get_or (λ x. p x ≡ false) xs 0 (λ k below. fails_before_first p xs k 0 (omega arith)))
cut_by p xs false e (Some i) is = absurd cc

pub cut_is : (p : ℕ → Bool) (xs : List ℕ) (r : Option ℕ) → r ≡ position p xs → IsCut p xs r
cut_is p xs r is = cut_by p xs (ltb (position_or_len p xs) (length xs)) refl r is

onto_some : (x : ℕ) (parts : List (List ℕ)) → (y : List ℕ) × (ys : List (List ℕ)) × (onto_first x parts ≡ y ∷ ys)
onto_some x [] = (x ∷ [], [], refl)
onto_some x (part ∷ parts) = (x ∷ part, parts, refl)

some_of : (p : ℕ → Bool) (b : Bool) (x : ℕ) (parts : List (List ℕ)) → (y : List ℕ) × (ys : List (List ℕ)) × (cond b ([] ∷ parts) (onto_first x parts) ≡ y ∷ ys)
some_of p true x parts = ([], parts, refl)
some_of p false x parts = onto_some x parts

-- there is a piece
pub some_piece : (p : ℕ → Bool) (xs : List ℕ) → (y : List ℕ) × (ys : List (List ℕ)) × (slice_split p xs ≡ y ∷ ys)
some_piece p [] = ([], [], refl)
some_piece p (x ∷ xs) = some_of p (p x) x (slice_split p xs)

-- two pieces are no number alone
pub one_more : (word : List ℕ) (p : ℕ → Bool) (xs : List ℕ) → one_of (word ∷ slice_split p xs) ≡ None
unfolding one_of
one_more word p xs = let some = some_piece p xs in ap (λ (ws : List (List ℕ)). one_of (word ∷ ws)) some.2

-- three pieces are no item
pub item_more : (client turns : List ℕ) (p : ℕ → Bool) (xs : List ℕ) → item_from (client ∷ turns ∷ slice_split p xs) ≡ None
unfolding item_from
item_more client turns p xs = let some = some_piece p xs in ap (λ (ws : List (List ℕ)). item_from (client ∷ turns ∷ ws)) some.2

-- a line with a second piece is told by its first word
pub shape_more : (head : List ℕ) (p : ℕ → Bool) (xs : List ℕ) → shape_from (head ∷ slice_split p xs) ≡ shape_by head (slice_split p xs)
unfolding shape_from
shape_more head p xs =
    let some = some_piece p xs in
    ap (λ (ws : List (List ℕ)). shape_from (head ∷ ws)) some.2 ∙ ap (λ (ws : List (List ℕ)). shape_by head ws) (sym some.2)
