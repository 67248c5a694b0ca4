-- a machine within another one that does as it does: its calls in a run are those of the other
use Rattle.std.proofs.Common.{◌≡◌, ℕ, refl, sym, ap, ◌∙◌, subst, [], ◌∷◌, List}
use Rattle.shm_graph.specs.{declared.memo.Step.Step, Asks.Trail, Laws.{Control, step_of}, Tells.{GoesOn, machine_steps}}
use Rattle.shm_table.specs.Get.Finding.{IsAnswered}

module _ {S T A : Type 0} (k : Control S A) (j : Control T A) (within : S → T) (step : (m : S) (n : ℕ) → step_of j (within m) n ≡ step_of k m n) (after : (m : S) (n : ℕ) → j.after (within m) n ≡ within (k.after m n)) (finished : (m : S) → j.finished (within m) ≡ k.finished m) (turns : (m : S) (n : ℕ) → j.turns (within m) n ≡ k.turns m n) where
  pub steps_within : (m : S) (tr : Trail) → machine_steps j (within m) tr ≡ machine_steps k m tr
  steps_within m [] = refl
  steps_within m (x ∷ tr) =
      ap (λ (s : Step). s ∷ machine_steps j (j.after (within m) x.word) tr) (step m x.word)
      ∙ (ap (λ (t : T). step_of k m x.word ∷ machine_steps j t tr) (after m x.word) ∙ ap (λ (ss : List Step). step_of k m x.word ∷ ss) (steps_within (k.after m x.word) tr))

  pub goes_within : (m : S) (tr : Trail) → GoesOn j (within m) tr → GoesOn k m tr
  goes_within m [] on = tt
  goes_within m (x ∷ []) on = sym (finished m) ∙ on
  goes_within m (x ∷ y ∷ tr) on = (sym (finished m) ∙ on.0, (sym (turns m x.word) ∙ on.1.0, goes_within (k.after m x.word) (y ∷ tr) (subst (λ (t : T). GoesOn j t (y ∷ tr)) (after m x.word) on.1.1)))

  pub answered_within : (m : S) (tr : Trail) (a : A) → IsAnswered j (within m) tr a → IsAnswered k m tr a
  answered_within m [] a ends = ends
  answered_within m (x ∷ []) a ends = sym (turns m x.word) ∙ ends
  answered_within m (x ∷ y ∷ tr) a ends = answered_within (k.after m x.word) (y ∷ tr) a (subst (λ (t : T). IsAnswered j t (y ∷ tr) a) (after m x.word) ends)
