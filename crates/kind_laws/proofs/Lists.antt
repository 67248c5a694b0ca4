-- what joins a list is in it, and what a filter leaves of one
use Rattle.std.proofs.Common.{◌≡◌, refl, sym, ◌∙◌, arith, true, false, Bool, cond, List, [], ◌∷◌}
use Rattle.std.proofs.lemmas.List.Elements.{All-nil, All-cons, All-head, All-tail, All-weaker, All-contains, All-contains_itself, Contains-push, Contains-append_left, Contains-append_right}
use Rattle.std.proofs.lemmas.Bool.{true≢false}
use Rattle.std.specs.List.{All, Contains, filter}

-- an element that joins a list is in it
pub newest : {X : Type 0} (x : X) (xs : List X) → Contains (x ∷ xs) x
newest x xs = (0, omega arith, refl)

-- what a filter keeps has passed
pub All-kept : {X : Type 0} (P Q : X → Type 0) (test : X → Bool) → ((x : X) → test x ≡ true → P x → Q x) → (xs : List X) → All P xs → All Q (filter test xs)
All-kept {X} P Q test f [] h = All-nil Q
All-kept {X} P Q test f (x ∷ xs) h = go (test x) refl (All-kept P Q test f xs (All-tail P x xs h))
  where
    go : (b : Bool) → test x ≡ b → All Q (filter test xs) → All Q (cond b (x ∷ filter test xs) (filter test xs))
    go true e r = All-cons Q x (filter test xs) (f x e (All-head P x xs h)) r
    go false e r = r

-- a filter leaves each element that passes
filter_all : {X : Type 0} (test : X → Bool) → (xs : List X) → All (λ x. test x ≡ true → Contains (filter test xs) x) xs
filter_all {X} test [] = All-nil (λ x. test x ≡ true → Contains (filter test []) x)
filter_all {X} test (x ∷ xs) = go (test x) refl (filter_all test xs)
  where
    go : (b : Bool) → test x ≡ b → All (λ y. test y ≡ true → Contains (filter test xs) y) xs → All (λ y. test y ≡ true → Contains (cond b (x ∷ filter test xs) (filter test xs)) y) (x ∷ xs)
    go true e r = All-cons (λ y. test y ≡ true → Contains (x ∷ filter test xs) y) x xs (λ _. Contains-append_left (x ∷ []) (filter test xs) x (Contains-push [] x)) (All-weaker (λ y. test y ≡ true → Contains (filter test xs) y) (λ y. test y ≡ true → Contains (x ∷ filter test xs) y) (λ y h t. Contains-append_right (x ∷ []) (filter test xs) y (h t)) xs r)
    go false e r = All-cons (λ y. test y ≡ true → Contains (filter test xs) y) x xs (λ t. absurd (true≢false (sym t ∙ e))) r

-- and so what is there and passes is left
pub Contains-filter : {X : Type 0} (test : X → Bool) → (xs : List X) (x : X) → Contains xs x → test x ≡ true → Contains (filter test xs) x
Contains-filter {X} test xs x h t = All-contains (λ y. test y ≡ true → Contains (filter test xs) y) xs x (filter_all test xs) h t

-- what a filter leaves was there, and has passed
pub filter_from : {X : Type 0} (test : X → Bool) → (xs : List X) (x : X) → Contains (filter test xs) x → Contains xs x × (test x ≡ true)
filter_from {X} test xs x h = All-contains (λ y. Contains xs y × (test y ≡ true)) (filter test xs) x (All-kept (Contains xs) (λ y. Contains xs y × (test y ≡ true)) test (λ y t c. (c, t)) xs (All-contains_itself xs)) h
