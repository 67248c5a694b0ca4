-- the words of a pool of format 1 in format 2, where its format is known
use Rattle.std.proofs.Common.{◌≡◌, ℕ, ◌+◌, ◌<◌, ◌≤◌, true, false, List, ap, ◌∙◌, arith}
use Rattle.shm_words.specs.{declared.geometry.Geometry.Geometry, Layout.{GeometryFits, total_of}}
use Rattle.shm_graph.specs.{declared.{spot.Spot.TheVariants.Head, table.Entry.Entry}, Spots.{spot_at, classes_in, see}}
use Rattle.shm_graph.specs.{Blocks.{classes, headers, IsLive}, References.{references, references_in_all, live_count}}
use Rattle.shm_graph.specs.{Clean.IsClean, Tables.IsTable}
use Rattle.shm_graph.proofs.States.Reading.{live_below}
use Rattle.shm_audit.specs.{Verdicts.{clean_verdict, found_at}, declared.verdict.Verdict.TheVariants.Clean}
use Rattle.shm_migrate.specs.Widened.{wide_of, moved, moved_table, widened_at, widened_word, widened}
use Rattle.shm_migrate.proofs.Places.{narrow, front, of_format}
use Rattle.shm_migrate.proofs.Widening as widening
use Rattle.shm_migrate.proofs.Kept as kept
use Rattle.shm_migrate.proofs.TableKept as tables

module _ (g : Geometry) (ws : List ℕ) (f : GeometryFits g) (o : g.wide ≡ false) where
  pub further_word : (a : ℕ) → front g.clients ≤ a → a < total_of g → widened_word g (see g ws) (a + g.clients) ≡ widened_at g (see g ws) (spot_at g (classes_in g ws) a)
  further_word = of_format (λ h. GeometryFits h → (a : ℕ) → front h.clients ≤ a → a < total_of h → widened_word h (see h ws) (a + h.clients) ≡ widened_at h (see h ws) (spot_at h (classes_in h ws) a)) (λ n s. widening.word_further n s ws) g o f

  pub moved_further : (b : ℕ) → IsLive (headers (see g ws)) b → moved g b ≡ b + g.clients
  moved_further = of_format (λ h. GeometryFits h → (b : ℕ) → IsLive (headers (see h ws)) b → moved h b ≡ b + h.clients) (λ n s. widening.moved_live n s ws) g o f

  pub header_kept : (b : ℕ) → IsLive (headers (see g ws)) b → see (wide_of g) (widened g ws) (Head (moved g b)) ≡ see g ws (Head b)
  header_kept =
      of_format (λ h. GeometryFits h → (b : ℕ) → IsLive (headers (see h ws)) b → see (wide_of h) (widened h ws) (Head (moved h b)) ≡ see h ws (Head b))
      (λ n s fits b l. ap (λ a. see (wide_of (narrow n s)) (widened (narrow n s) ws) (Head a)) (widening.moved_live n s ws fits b l) ∙ widening.head_same n s ws fits b) g o f

  module _ (clean : IsClean g (see g ws)) where
    pub clean_kept : IsClean (wide_of g) (see (wide_of g) (widened g ws))
    clean_kept = of_format (λ h. GeometryFits h → IsClean h (see h ws) → IsClean (wide_of h) (see (wide_of h) (widened h ws))) (λ n s. kept.clean_kept n s ws) g o f clean

    pub verdict_kept : clean_verdict (wide_of g) (see (wide_of g) (widened g ws)) ≡ clean_verdict g (see g ws)
    verdict_kept =
        of_format (λ h. GeometryFits h → IsClean h (see h ws) → clean_verdict (wide_of h) (see (wide_of h) (widened h ws)) ≡ clean_verdict h (see h ws))
        (λ n s fits c.
        let after = see (wide_of (narrow n s)) (widened (narrow n s) ws) in
        let before = see (narrow n s) ws in
        ap (λ (l : ℕ). Clean l (references_in_all (wide_of (narrow n s)) (classes after) (references true after))) (kept.live_kept n s ws fits)
        ∙ ap (λ (r : ℕ). Clean (live_count (narrow n s) before) r) (kept.names_in_all_kept n s ws fits c)) g o f clean

    pub found_kept : (b : ℕ) → IsLive (headers (see g ws)) b → found_at (wide_of g) (see (wide_of g) (widened g ws)) (moved g b) ≡ found_at g (see g ws) b
    found_kept =
        of_format (λ h. GeometryFits h → IsClean h (see h ws) → (b : ℕ) → IsLive (headers (see h ws)) b → found_at (wide_of h) (see (wide_of h) (widened h ws)) (moved h b) ≡ found_at h (see h ws) b)
        (λ n s fits c b l.
        ap (found_at (wide_of (narrow n s)) (see (wide_of (narrow n s)) (widened (narrow n s) ws))) (widening.moved_live n s ws fits b l)
        ∙ kept.found_kept n s ws fits c b (let p = (live_below (narrow n s) ws b l).0 in omega arith)) g o f clean

    pub table_kept : (table : ℕ → ℕ → List Entry) → IsTable g (see g ws) table → IsTable (wide_of g) (see (wide_of g) (widened g ws)) (moved_table g table)
    table_kept =
        of_format (λ h. GeometryFits h → IsClean h (see h ws) → (table : ℕ → ℕ → List Entry) → IsTable h (see h ws) table → IsTable (wide_of h) (see (wide_of h) (widened h ws)) (moved_table h table))
        (λ n s. tables.table_kept n s ws) g o f clean
