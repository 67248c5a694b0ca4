use Rattle.std.proofs.Common.{◌≡◌, ◌≢◌, ℕ, false}
use Rattle.std.specs.Prelude.{Some}
use Rattle.shm_graph.specs.Runs.{account_at}
use Rattle.shm_replay.specs.{Orders.rounds_of, Seats.{IsSeat, turns_in}, Turns.{given, is_busy}}
use Rattle.shm_replay.proofs.order.give_rest.Given as goal

abbrev pub invariant-loop-agents : goal.invariant-loop-agents
invariant-loop-agents g l = record {
  me : l.agents.me ≡ l.fn.agents.me;
  seat : IsSeat l.trace l.pool l.fn.agents.me.who l.agents;
  turns : (n : ℕ) × (l.pool ≡ given l.trace l.fn.pool (rounds_of l.trace.clients n));
  idle : (d : ℕ) → d ≢ l.fn.agents.me.who → is_busy l.trace l.pool d ≡ false;
  others : (d : ℕ) → d ≢ l.fn.agents.me.who → account_at l.pool.accounts d ≡ account_at l.fn.pool.accounts d;
  start : l.pool.start ≡ l.fn.pool.start;
}

abbrev pub decreases-loop-agents : goal.decreases-loop-agents
decreases-loop-agents g l = turns_in l.trace.scripts (Some l.agents)
