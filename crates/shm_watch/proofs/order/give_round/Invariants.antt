use Rattle.std.proofs.Common.{◌≡◌, ℕ, ◌<◌, ◌≤◌, true, false}
use Rattle.shm_replay.specs.{Orders.from_on, Seats.{AreSeated, turns_left}, Turns.{given, is_busy}}
use Rattle.shm_watch.proofs.order.give_round.Given as goal

abbrev pub invariant-loop-who : goal.invariant-loop-who
invariant-loop-who g l = record {
  seated : AreSeated l.trace l.pool l.agents;
  turns : l.pool ≡ given l.trace l.fn.pool (from_on 0 l.who);
  life : l.some ≡ true → turns_left l.trace.scripts l.agents < turns_left l.trace.scripts l.fn.agents;
  less : turns_left l.trace.scripts l.agents ≤ turns_left l.trace.scripts l.fn.agents;
  still : l.some ≡ false → l.pool ≡ l.fn.pool;
  idle : l.some ≡ false → (c : ℕ) → c < l.who → is_busy l.trace l.fn.pool c ≡ false;
  start : l.pool.start ≡ l.fn.pool.start;
}
