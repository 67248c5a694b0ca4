-- Scripts and traces without where they lie in memory.
use Rattle.std.specs.Prelude.{ℕ, Bool, List}
use Rattle.shm_script.specs.declared.line.{Line.Line, Item.Item}

-- what a client does: the lives of its agents, and its commands
pub record Scripted : Type 0 where
  pub client : ℕ
  pub life : List ℕ
  pub lines : List Line

-- the size of a pool and whether it is of format 2, an order of turns, and scripts
pub record Traced : Type 0 where
  pub clients : ℕ
  pub segments : ℕ
  pub wide : Bool
  pub order : List Item
  pub scripts : List Scripted
