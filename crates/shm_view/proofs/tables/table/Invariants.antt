use Rattle.std.proofs.Common.{◌≡◌, take}
use Rattle.shm_view.proofs.tables.table.Given as goal

abbrev pub invariant-loop-head : goal.invariant-loop-head
invariant-loop-head l = l.all.items ≡ take l.head-index l.heads
