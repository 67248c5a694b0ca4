-- Lines with their answers, where one of the two lists is at its end.
use Rattle.std.proofs.Common.{◌≡◌, ℕ, ◌⊎◌, inl, inr, List, [], ◌∷◌, ◌++◌, length, refl, sym, ap, ◌∙◌, arith}
use Rattle.std.proofs.lemmas.List.{append-nil}
use Rattle.shm_tree.specs.declared.line.{TreeAnswer.TreeAnswer, TreeLine.TreeLine}
use Rattle.shm_versions.specs.RunTexts.{answered_lines}

none_left : (ls : List TreeLine) (bs : List TreeAnswer) → (length ls ≡ 0) ⊎ (length bs ≡ 0) → answered_lines ls bs ≡ []
none_left [] bs w = refl
none_left (l ∷ ls) [] w = refl
none_left (l ∷ ls) (b ∷ bs) w = elim w [ inl h ↦ absurd (omega (arith, h)) | inr h ↦ absurd (omega (arith, h)) ]

pub told_all : (text all : List ℕ) (ls : List TreeLine) (bs : List TreeAnswer) → text ++ answered_lines ls bs ≡ all → (length ls ≡ 0) ⊎ (length bs ≡ 0) → text ≡ all
told_all text all ls bs e w = sym (append-nil text) ∙ (sym (ap (λ (us : List ℕ). text ++ us) (none_left ls bs w)) ∙ e)
