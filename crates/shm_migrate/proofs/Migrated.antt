-- an image that is migrated, and the image that it becomes
use Rattle.std.proofs.Common.{◌≡◌, ℕ, ◌^◌, ◌<◌, false, List, length, get_or, sym, ap, subst, ◌∙◌}
use Rattle.std.specs.{Prelude.{Option, Some, None}, Option.option_or}
use Rattle.shm_words.specs.{declared.geometry.Geometry.Geometry, Layout.{GeometryFits, total_of}}
use Rattle.shm_graph.specs.{Spots.see, Clean.IsClean}
use Rattle.shm_audit.specs.{declared.fault.ImageFault.ImageFault, Images.{image_of, geometry_in, words_in}}
use Rattle.shm_audit.specs.Faults.{frame_fault_of, image_fault_of, words_fault_of}
use Rattle.shm_audit.specs.Verdicts.{verdict_of, IsCleanVerdict}
use Rattle.shm_audit.proofs.{Cleaning.{clean_is_told, fault_free_clean}, CleanImages.{image_faultless, image_verdict}}
use Rattle.shm_migrate.specs.{Widened.{wide_of, widened}, Migrations.verdict_in}
use Rattle.shm_migrate.proofs.{Places.of_format, Formats.{clean_kept, verdict_kept}}
use Rattle.shm_migrate.proofs.Widening as widening

no_second : (x y : Option ImageFault) → option_or x y ≡ None → y ≡ None
no_second None y e = e
no_second (Some f) y e = absurd cc

-- the sizes and the words that are read in an image without a fault are those of a clean pool, where the verdict says so
pub image_clean : (image : List ℕ) (g : Geometry) (ws : List ℕ) → GeometryFits g → g ≡ geometry_in image → ws ≡ words_in image → image_fault_of image ≡ None → IsCleanVerdict (verdict_in image) → IsClean g (see g ws)
image_clean image g ws f e d none clean =
    let at = λ (h : Geometry) (xs : List ℕ). verdict_of h (see h xs) in
    let v : verdict_of g (see g ws) ≡ verdict_in image = ap (λ h. at h ws) e ∙ ap (at (geometry_in image)) d in
    fault_free_clean g ws f
    (ap (λ h. words_fault_of h ws) e ∙ (ap (words_fault_of (geometry_in image)) d ∙ no_second (frame_fault_of image) _ none))
    (subst IsCleanVerdict (sym v) clean)

wide_fits : (g : Geometry) → GeometryFits g → g.wide ≡ false → GeometryFits (wide_of g)
wide_fits g f o = of_format (λ h. GeometryFits h → GeometryFits (wide_of h)) widening.wide_fits g o f

long : (g : Geometry) (ws : List ℕ) → GeometryFits g → g.wide ≡ false → length (widened g ws) ≡ total_of (wide_of g)
long g ws f o = of_format (λ h. GeometryFits h → length (widened h ws) ≡ total_of (wide_of h)) (λ n s. widening.widened_long n s ws) g o f

module _ (image bytes : List ℕ) (g : Geometry) (ws : List ℕ) (f : GeometryFits g) (o : g.wide ≡ false) (sizes : g ≡ geometry_in image) (words : ws ≡ words_in image) (none : image_fault_of image ≡ None) (told : IsCleanVerdict (verdict_in image)) (small : (i : ℕ) → get_or (widened g ws) i 0 < 2 ^ 64) (made : bytes ≡ image_of (wide_of g) (widened g ws)) where
  clean : IsClean g (see g ws)
  clean = image_clean image g ws f sizes words none told

  pub migrated_faultless : image_fault_of bytes ≡ None
  migrated_faultless = ap image_fault_of made ∙ image_faultless (wide_of g) (widened g ws) (wide_fits g f o) small (clean_kept g ws f o clean) (long g ws f o)

  pub migrated_verdict : verdict_in bytes ≡ verdict_in image
  migrated_verdict =
      let at = λ (h : Geometry) (xs : List ℕ). verdict_of h (see h xs) in
      ap verdict_in made
      ∙ (image_verdict (wide_of g) (widened g ws) (wide_fits g f o) small (clean_kept g ws f o clean)
      ∙ (verdict_kept g ws f o clean
      ∙ (sym (clean_is_told g (see g ws) clean)
      ∙ (ap (λ h. at h ws) sizes ∙ ap (at (geometry_in image)) words))))
