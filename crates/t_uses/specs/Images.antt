-- audits of images that were just written
use Rattle.std.specs.Prelude.{◌≡◌, ℕ, ◌^◌, ◌<◌, List, length}
use Rattle.shm_words.specs.{declared.geometry.Geometry.Geometry, Layout.{GeometryFits, total_of}}
use Rattle.shm_graph.specs.{declared.spot.Spot.Spot, Clean.IsClean, Spots.see}
use Rattle.shm_audit.specs.declared.stop.AuditStop.{AuditStop, TheVariants.{Memory, Fault}}

-- an audit gave no verdict since memory was wanting, and for nothing else
abbrev pub IsForMemory : AuditStop → Type 0
IsForMemory (Memory e) = Unit {0}
IsForMemory (Fault f) = ⊥

-- the words are those of a clean pool of these sizes
pub record AreClean (g : Geometry) (ws : List ℕ) : Type 0 where
  pub fits : GeometryFits g
  pub whole : length ws ≡ total_of g
  pub small : (p : Spot) → see g ws p < 2 ^ 64
  pub clean : IsClean g (see g ws)
