use Rattle.std.proofs.Common.{◌≡◌, ℕ}
use Rattle.shm_replay.specs.{Orders.rounds_of, Seats.{AreSeated, turns_left}, Turns.given}
use Rattle.shm_watch.proofs.order.give_rounds.Given as goal

abbrev pub invariant-loop : goal.invariant-loop
invariant-loop g l = record {
  seated : AreSeated l.trace l.pool l.agents;
  turns : (n : ℕ) × (l.pool ≡ given l.trace l.fn.pool (rounds_of l.trace.clients n));
  start : l.pool.start ≡ l.fn.pool.start;
}

abbrev pub decreases-loop : goal.decreases-loop
decreases-loop g l = turns_left l.trace.scripts l.agents
