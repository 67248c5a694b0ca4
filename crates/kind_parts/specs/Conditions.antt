-- what each kind of step needs of the memo of its identity
use Rattle.std.specs.Prelude.{◌≡◌, ◌≢◌, ℕ, ◌^◌, ◌<◌}
use Rattle.shm_graph.specs.{declared.{spot.Spot.Spot, memo.Memo.Memo}, Ops.slot_of, MemoAfterStore.op_written}
use Rattle.shm_graph.specs.declared.memo.Status.TheVariants as status
use Rattle.kind_laws.specs.Slotting.{Writes}

-- somebody has joined, and the identity isn't gone
pub record IsHere (m : Memo) : Type 0 where
  pub joined : m.status ≢ status.New
  pub stays : m.status ≢ status.Gone

-- the step is committed, and may have written before; it has this slot, and x as its new value
pub record MayWrite (m : Memo) (p : Spot) (x : ℕ) : Type 0 where
  pub here : IsHere m
  pub slot : slot_of m.op ≡ p
  pub op : Writes m.op (op_written m.op) x
  pub small : x < 2 ^ 64
