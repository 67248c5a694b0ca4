-- what the store that gives a latch back needs of the memo of its identity
use Rattle.std.specs.Prelude.{◌≡◌, ℕ, Some}
use Rattle.shm_graph.specs.declared.memo.{Op.TheVariants.Nothing, Memo.Memo}
use Rattle.kind_parts.specs.Conditions.{IsHere}

-- no step is in progress, and the latch is held
pub record MayUnlatch (m : Memo) (a : ℕ) : Type 0 where
  pub here : IsHere m
  pub op : m.op ≡ Nothing
  pub latch : m.latch ≡ Some a
