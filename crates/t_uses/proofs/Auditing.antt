-- the image of a clean pool, audited as it was written
use Rattle.std.proofs.Common.{◌≡◌, ℕ, ◌^◌, ◌<◌, ◌↔◌, sym, ap, ◌∙◌, subst, arith, inl, inr, List, length}
use Rattle.std.proofs.lemmas.{Bool.cases_lt, List.get_or_past}
use Rattle.std.specs.{Prelude.{None, Option, slice_index}, Option.option_or}
use Rattle.shm_words.specs.{declared.geometry.Geometry.Geometry, Layout.total_of}
use Rattle.shm_graph.specs.{declared.spot.Spot.Spot, Clean.IsClean, Spots.{classes_in, see, spot_at}}
use Rattle.shm_graph.proofs.Spots.Seeing.{see-spot}
use Rattle.shm_audit.specs.declared.{fault.ImageFault.ImageFault, stop.AuditStop.AuditStop}
use Rattle.shm_audit.specs.declared.{stop.AuditStop.TheVariants.{Fault, Memory}, verdict.Verdict.Verdict}
use Rattle.shm_audit.specs.Faults.{frame_fault_of, image_fault_of, words_fault_of}
use Rattle.shm_audit.specs.{Images.{geometry_in, image_of, words_in}, Stops.StopsBy}
use Rattle.shm_audit.specs.Verdicts.{IsCleanVerdict, verdict_of}
use Rattle.t_uses.specs.Images.{IsForMemory}

-- each word of a pool is a word, as each spot of it shows one
pub words_small : (g : Geometry) (ws : List ℕ) → length ws ≡ total_of g → ((p : Spot) → see g ws p < 2 ^ 64) → (i : ℕ) → slice_index ws i < 2 ^ 64
words_small g ws whole small i =
    elim (cases_lt i (total_of g)) [
      | inl l ↦ subst (λ (n : ℕ). n < 2 ^ 64) (see-spot g ws i l) (small (spot_at g (classes_in g ws) i))
      | inr past ↦ subst (λ (n : ℕ). n < 2 ^ 64) (sym (get_or_past ws i 0 (rw whole past))) (omega arith)
    ]

-- no fault is no fault
only_memory : (o : Option ImageFault) (e : AuditStop) → o ≡ None → StopsBy o e → IsForMemory e
only_memory o (Memory x) none h = tt
only_memory o (Fault f) none h = absurd (let e = sym none ∙ h in cc)

-- by the laws of images and of verdicts
module _ (g : Geometry) (ws image : List ℕ) (is : image ≡ image_of g ws) (clean : IsClean g (see g ws)) (frame : frame_fault_of (image_of g ws) ≡ None) (sizes : geometry_in (image_of g ws) ≡ g) (words : words_in (image_of g ws) ≡ ws) (where_clean : IsClean g (see g ws) ↔ (words_fault_of g ws ≡ None) × IsCleanVerdict (verdict_of g (see g ws))) where
  here : geometry_in image ≡ g
  here = ap geometry_in is ∙ sizes

  there : words_in image ≡ ws
  there = ap words_in is ∙ words

  none : image_fault_of image ≡ None
  none =
      ap (λ (o : Option ImageFault). option_or o (words_fault_of (geometry_in image) (words_in image))) (ap frame_fault_of is ∙ frame)
      ∙ (ap (λ (x : Geometry). words_fault_of x (words_in image)) here ∙ (ap (words_fault_of g) there ∙ (where_clean.0 clean).0))

  pub image_clean : (v : Verdict) → v ≡ verdict_of (geometry_in image) (see (geometry_in image) (words_in image)) → IsCleanVerdict v
  image_clean v e =
      subst IsCleanVerdict (sym (e ∙ (ap (λ (x : Geometry). verdict_of x (see x (words_in image))) here ∙ ap (λ (xs : List ℕ). verdict_of g (see g xs)) there)))
      (where_clean.0 clean).1

  pub image_stops : (e : AuditStop) → StopsBy (image_fault_of image) e → IsForMemory e
  image_stops e h = only_memory (image_fault_of image) e none h
