-- the words of a closed pool
use Rattle.std.specs.Prelude.{◌≡◌, ℕ, List, length}
use Rattle.shm_words.specs.{declared.geometry.Geometry.Geometry, Layout.{GeometryFits, total_of}}
use Rattle.shm_graph.specs.{Spots.see, Clean.IsClean}

-- these are all words of a pool of these sizes, and it is clean
pub record IsCleanPool (g : Geometry) (ws : List ℕ) : Type 0 where
  pub fits : GeometryFits g
  pub whole : length ws ≡ total_of g
  pub clean : IsClean g (see g ws)
