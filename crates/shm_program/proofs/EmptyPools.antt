-- the last line that is told of a closed pool in which no block is live
use Rattle.std.proofs.Common.{◌≡◌, ℕ, true, false, List, ◌++◌, append_assoc, sym, ap, ap₂, ◌∙◌, arith, inl, inr}
use Rattle.std.proofs.lemmas.{Bool.cases_eq, Fmt.decimal_digit}
use Rattle.std.specs.{Prelude.{Bool, codes, ◌==◌, if◌then◌else◌}, Fmt.decimal}
use Rattle.shm_words.specs.Layout.{total_of}
use Rattle.shm_graph.specs.{declared.spot.Spot.Spot, Blocks.{classes, headers}}
use Rattle.shm_graph.specs.{References.{live_count, one_if, references, references_in_all}, Spots.{see, spot_at}}
use Rattle.shm_graph.proofs.Spots.Sums.{sum_none}
use Rattle.shm_plain.specs.{Closings.IsClosedRun, Pools.Pool}
use Rattle.shm_tree.specs.Keeping.{is_live}
use Rattle.shm_versions.specs.RunTexts.{last_line}

both : (b : Bool) → b ≡ true → b ≡ false → ⊥
both b e f = absurd (cc)

module _ (p : Pool) (closed : IsClosedRun p) (empty : (b : ℕ) → is_live p b ≡ false) where
  abbrev w : Spot → ℕ
  w = see p.start.geometry p.words

  names_none : (x : Spot) → references p.start.geometry.wide w x ≡ 0
  names_none x =
      elim (cases_eq (references p.start.geometry.wide w x) 0) [
        | inl none ↦ none
        | inr some ↦ absurd (both _ (closed.clean.targets x some) (empty (references p.start.geometry.wide w x)))
      ]

  none_live : live_count p.start.geometry w ≡ 0
  unfolding live_count
  none_live = sum_none (total_of p.start.geometry) (λ b. one_if (headers w b).live) (λ b less. ap one_if (empty b))

  none_named : references_in_all p.start.geometry (classes w) (references p.start.geometry.wide w) ≡ 0
  unfolding references_in_all
  none_named =
      sum_none (total_of p.start.geometry) (λ a. if references p.start.geometry.wide w (spot_at p.start.geometry (classes w) a) == 0 then 0 else 1)
      (λ a less. ap (λ n. if n == 0 then 0 else 1) (names_none (spot_at p.start.geometry (classes w) a)))

  pub empty_line : last_line p ≡ codes "live 0 refs 0\n"
  empty_line =
      let zero : decimal 0 ≡ codes "0" = decimal_digit 0 (omega arith) in
      ap₂ (λ l f. codes "live " ++ decimal l ++ codes " refs " ++ decimal f ++ codes "\n") none_live none_named
      ∙ ap (λ d. codes "live " ++ d ++ codes " refs " ++ d ++ codes "\n") zero

-- it is the end of a text
pub ends_with : (text lines ending last line : List ℕ) → text ≡ lines ++ (ending ++ last) → last ≡ line → (front : List ℕ) × (text ≡ front ++ line)
ends_with text lines ending last line is same = (lines ++ ending, is ∙ (sym (append_assoc lines ending last) ∙ ap (λ xs. (lines ++ ending) ++ xs) same))
