use Rattle.std.proofs.Common.{◌≡◌, ℕ, ◌+◌, ◌≤◌}
use Rattle.shm_replay.specs.{Orders.rounds_of, Seats.{AreSeated, turns_left}, Turns.given}
use Rattle.shm_replay.proofs.order.give_some_rounds.Given as goal

abbrev pub invariant-loop-round : goal.invariant-loop-round
invariant-loop-round g l = record {
  seated : AreSeated l.trace l.pool l.agents;
  turns : (n : ℕ) × (l.pool ≡ given l.trace l.fn.pool (rounds_of l.trace.clients n));
  life : turns_left l.trace.scripts l.agents + l._round ≤ turns_left l.trace.scripts l.fn.agents;
  start : l.pool.start ≡ l.fn.pool.start;
}
