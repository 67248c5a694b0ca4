use Rattle.std.proofs.Common.{◌≡◌, ℕ, ◌+◌, ◌*◌, ◌<◌, List, false}
use Rattle.shm_words.specs.{declared.geometry.Geometry.Geometry, Layout.{GeometryFits, total_of}}
use Rattle.shm_graph.specs.Spots.{see}
use Rattle.shm_audit.specs.{Tallies.{ArePages, Tallied, place_address}, Verdicts.is_wrong}
use Rattle.shm_audit.proofs.tally.Tally.judge.Given as goal

abbrev pub invariant-loop-found : goal.invariant-loop-found
invariant-loop-found l =
    record {
      block : l.block ≡ l.self.start + 4 * l.found-index;
      right : (g : Geometry) (ws : List ℕ) → GeometryFits g → ArePages g ws → Tallied g ws (total_of g) l.self → (q : ℕ) → q < l.found-index → is_wrong g (see g ws) (place_address g q) ≡ false;
    }
