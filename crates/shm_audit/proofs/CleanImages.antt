-- the image of a clean pool: it has no fault, and the verdict on it is that of the pool
use Rattle.std.proofs.Common.{◌≡◌, ℕ, List, length, ap, ◌∙◌}
use Rattle.std.specs.Prelude.{None}
use Rattle.shm_words.specs.{declared.geometry.Geometry.Geometry, Layout.{GeometryFits, total_of}}
use Rattle.shm_graph.specs.{Clean.IsClean, Spots.see}
use Rattle.shm_audit.specs.{Faults.{image_fault_of, words_fault_of}, Images.{geometry_in, image_of, words_in}}
use Rattle.shm_audit.specs.Verdicts.{clean_verdict, verdict_of}
use Rattle.shm_audit.proofs.Cleaning.{both_none, clean_is_told, clean_no_fault}
use Rattle.shm_audit.proofs.ReadingBack.{AreWords, frame_back, sizes_back, words_back}

module _ (g : Geometry) (ws : List ℕ) (fits : GeometryFits g) (small : AreWords ws) (clean : IsClean g (see g ws)) where
  abbrev image : List ℕ
  image = image_of g ws

  pub image_faultless : length ws ≡ total_of g → image_fault_of image ≡ None
  image_faultless whole =
      both_none _ _ (frame_back g ws fits whole small)
      (ap (λ (h : Geometry). words_fault_of h (words_in image)) (sizes_back g ws fits small) ∙ (ap (words_fault_of g) (words_back g ws fits small) ∙ clean_no_fault g ws fits clean))

  pub image_verdict : verdict_of (geometry_in image) (see (geometry_in image) (words_in image)) ≡ clean_verdict g (see g ws)
  image_verdict =
      ap (λ (h : Geometry). verdict_of h (see h (words_in image))) (sizes_back g ws fits small)
      ∙ (ap (λ (xs : List ℕ). verdict_of g (see g xs)) (words_back g ws fits small) ∙ clean_is_told g (see g ws) clean)
