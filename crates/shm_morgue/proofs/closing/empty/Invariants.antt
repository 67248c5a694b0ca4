use Rattle.std.proofs.Common.{◌≡◌, ◌≤◌, length, vec_capacity}
use Rattle.crossbeam_queue.specs.Passes.{view}
use Rattle.shm_morgue.specs.Closing.{IsPlaceOf}
use Rattle.shm_morgue.proofs.Emptying.{Emptying}
use Rattle.shm_morgue.proofs.closing.empty.Given as goal

abbrev pub invariant-loop-turn : goal.invariant-loop-turn
invariant-loop-turn g l = record {
  place : IsPlaceOf l.morgue l.place;
  emptying : Emptying g.J.Pools.pools l.morgue.clients l.morgue.medics (view l.fn.place).porters (view l.fn.place).medics l.left.items (view l.place) l.count;
  many : length l.left.items ≡ l._turn;
  room : l.count ≤ vec_capacity l.left;
}
