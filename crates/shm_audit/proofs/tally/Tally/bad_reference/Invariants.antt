use Rattle.std.proofs.Common.{◌≡◌, ℕ, ◌+◌, ◌*◌, List}
use Rattle.shm_words.specs.{declared.geometry.Geometry.Geometry, Layout.{GeometryFits, total_of}}
use Rattle.shm_audit.specs.Tallies.{ArePages, Tallied}
use Rattle.shm_audit.proofs.Ends.{IsFirstIn, bad_below}
use Rattle.shm_audit.proofs.tally.Tally.bad_reference.Given as goal

abbrev pub invariant-loop-found : goal.invariant-loop-found
invariant-loop-found l =
    record {
      block : l.block ≡ l.self.start + 4 * l.found-index;
      first : (g : Geometry) (ws : List ℕ) → GeometryFits g → ArePages g ws → Tallied g ws (total_of g) l.self → IsFirstIn g ws (bad_below g ws l.block) l.least;
    }
