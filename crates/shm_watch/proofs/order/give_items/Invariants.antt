use Rattle.std.proofs.Common.{◌≡◌, ℕ, List, take}
use Rattle.shm_replay.specs.{Orders.AreOfItems, Seats.AreSeated, Turns.given}
use Rattle.shm_watch.proofs.order.give_items.Given as goal

abbrev pub invariant-loop-item : goal.invariant-loop-item
invariant-loop-item g l = record {
  seated : AreSeated l.trace l.pool l.agents;
  turns : (cs : List ℕ) × AreOfItems l.trace l.fn.pool (take l.item-index l.trace.order) cs × (l.pool ≡ given l.trace l.fn.pool cs);
  start : l.pool.start ≡ l.fn.pool.start;
}
