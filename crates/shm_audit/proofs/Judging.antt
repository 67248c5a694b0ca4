-- the verdict on one block
use Rattle.std.proofs.Common.{◌≡◌, ◌≢◌, ℕ, ◌<◌, Bool, true, false, not, ◌&&◌, ◌||◌, eqb, ap, ◌∙◌}
use Rattle.std.proofs.lemmas.Bool.{cond-true, cond-false, ne_eqb, eq-eqb}
use Rattle.shm_words.specs.{declared.geometry.Geometry.Geometry, Layout.total_of}
use Rattle.shm_graph.specs.{declared.spot.Spot.Spot, Blocks.headers}
use Rattle.shm_audit.specs.{declared.verdict.Verdict.TheVariants.{Uncounted, WrongCount}, Faults.least_below}
use Rattle.shm_audit.specs.Verdicts.{found_at, is_wrong, block_verdict, by_block}
use Rattle.shm_audit.proofs.Least.{some_below}

module _ (g : Geometry) (w : Spot → ℕ) (b : ℕ) where
  pub right_dead : (headers w b).live ≡ false → is_wrong g w b ≡ false
  right_dead dead = ap (λ l. l && (eqb (headers w b).count 0 || not (eqb (headers w b).count (found_at g w b)))) dead

  pub wrong_empty : (headers w b).live ≡ true → (headers w b).count ≡ 0 → is_wrong g w b ≡ true
  wrong_empty live none =
      ap (λ l. l && (eqb (headers w b).count 0 || not (eqb (headers w b).count (found_at g w b)))) live
      ∙ ap (λ z. z || not (eqb (headers w b).count (found_at g w b))) (eq-eqb (headers w b).count 0 none)

  counted_so : (z : Bool) → (headers w b).live ≡ true → (headers w b).count ≢ 0 → eqb (headers w b).count (found_at g w b) ≡ z → is_wrong g w b ≡ not z
  counted_so z live some e =
      ap (λ l. l && (eqb (headers w b).count 0 || not (eqb (headers w b).count (found_at g w b)))) live
      ∙ (ap (λ y. y || not (eqb (headers w b).count (found_at g w b))) (ne_eqb (headers w b).count 0 some)
      ∙ ap not e)

  pub wrong_count : (headers w b).live ≡ true → (headers w b).count ≢ 0 → (headers w b).count ≢ found_at g w b → is_wrong g w b ≡ true
  wrong_count live some other = counted_so false live some (ne_eqb (headers w b).count (found_at g w b) other)

  pub right_count : (headers w b).live ≡ true → (headers w b).count ≢ 0 → (headers w b).count ≡ found_at g w b → is_wrong g w b ≡ false
  right_count live some same = counted_so true live some (eq-eqb (headers w b).count (found_at g w b) same)

  pub empty_verdict : (headers w b).count ≡ 0 → block_verdict g w b ≡ Uncounted b
  empty_verdict none = cond-true (eqb (headers w b).count 0) (Uncounted b) _ (eq-eqb (headers w b).count 0 none)

  pub count_verdict : (headers w b).count ≢ 0 → block_verdict g w b ≡ WrongCount b (headers w b).count (found_at g w b)
  count_verdict some = cond-false (eqb (headers w b).count 0) (Uncounted b) _ (ne_eqb (headers w b).count 0 some)

  -- the first block that is wrong decides
  pub judged : b < total_of g → is_wrong g w b ≡ true → ((a : ℕ) → a < b → is_wrong g w a ≡ false) → by_block g w (least_below (total_of g) (is_wrong g w)) ≡ block_verdict g w b
  judged l is h = ap (by_block g w) (some_below (total_of g) (is_wrong g w) b l is h)
