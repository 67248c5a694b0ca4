use Rattle.std.proofs.Common.{◌≡◌, ℕ}
use Rattle.shm_replay.specs.{Orders.rounds_of, Seats.{AreSeated, turns_left}, Turns.given}
use Rattle.shm_replay.proofs.order.give_rounds.Given as goal

abbrev pub invariant-loop-agents : goal.invariant-loop-agents
invariant-loop-agents g l = record {
  seated : AreSeated l.trace l.pool l.agents;
  turns : (n : ℕ) × (l.pool ≡ given l.trace l.fn.pool (rounds_of l.trace.clients n));
  start : l.pool.start ≡ l.fn.pool.start;
}

abbrev pub decreases-loop-agents : goal.decreases-loop-agents
decreases-loop-agents g l = turns_left l.trace.scripts l.agents
