-- a list that grows by one element at its end
use Rattle.std.proofs.Common.{◌≡◌, ℕ, ◌+◌, ◌<◌, List, [], ◌∷◌, ◌++◌, length, get_or, below_more, subst, ap, ◌∙◌, sym}
use Rattle.std.proofs.{lemmas.List.get_or_append_left, Math.Seq.get_or-append_seam}

-- what holds of each element, and of the one that comes, holds of each element then
pub each_pushed : {A : Type 0} → (P : ℕ → A → Type 0) (xs : List A) (x d : A) (n : ℕ) → length xs ≡ n → ((k : ℕ) → k < n → P k (get_or xs k d)) → P n x → (k : ℕ) → k < n + 1 → P k (get_or (xs ++ x ∷ []) k d)
each_pushed P xs x d n len each here =
    let seam : get_or (xs ++ x ∷ []) n d ≡ x = ap (λ m. get_or (xs ++ x ∷ []) m d) (sym len) ∙ get_or-append_seam xs x [] d in
    below_more (λ k. P k (get_or (xs ++ x ∷ []) k d)) n
    (λ k l. subst (λ y. P k y) (sym (get_or_append_left xs (x ∷ []) d k (subst (λ m. k < m) (sym len) l))) (each k l))
    (subst (λ y. P n y) (sym seam) here)
