use Rattle.std.proofs.Common.{◌≡◌, ℕ, ◌+◌, ◌<◌, List}
use Rattle.shm_words.specs.declared.geometry.Geometry.{Geometry as AGeometry}
use Rattle.shm_graph.specs.Spots.{see}
use Rattle.shm_migrate.specs.{Widened.widened_word, Writing.WritesOn}
use Rattle.shm_migrate.proofs.image.push_unused.Given as goal

abbrev pub invariant-loop : goal.invariant-loop
invariant-loop l = (g : AGeometry) (ws : List ℕ) (from : ℕ) → ((k : ℕ) → k < 128 → widened_word g (see g ws) (from + k) ≡ 0) → WritesOn g ws l.fn.image.items l.image.items from (from + l.counter)
