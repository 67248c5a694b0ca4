use Rattle.std.proofs.Common.{◌≡◌, ◌≢◌, ℕ}
use Rattle.shm_graph.specs.Runs.{account_at}
use Rattle.shm_replay.specs.{Seats.IsSeat, Turns.in_a_row}
use Rattle.shm_watch.proofs.order.give_row.Given as goal

abbrev pub invariant-loop-turn : goal.invariant-loop-turn
invariant-loop-turn g l = record {
  me : l.agents.me ≡ l.fn.agents.me;
  seat : IsSeat l.trace l.pool l.fn.agents.me.who l.agents;
  given : l.pool ≡ in_a_row l.trace l.fn.pool l.fn.agents.me.who l._turn;
  others : (d : ℕ) → d ≢ l.fn.agents.me.who → account_at l.pool.accounts d ≡ account_at l.fn.pool.accounts d;
  start : l.pool.start ≡ l.fn.pool.start;
}
