use Rattle.std.proofs.Common.{◌≡◌, ◌≢◌, ℕ, ◌+◌, ◌<◌, true, length}
use Rattle.std.specs.Prelude.{◌⊎◌}
use Rattle.shm_graph.specs.Runs.{account_at}
use Rattle.shm_agents.specs.Agents.{is_client}
use Rattle.shm_replay.specs.{Seats.IsSeat, Turns.{answered, in_a_row, is_client_busy}}
use Rattle.shm_watch.proofs.order.give_until_answered.Given as goal

abbrev pub invariant-loop-turn : goal.invariant-loop-turn
invariant-loop-turn g l = record {
  me : l.agents.me ≡ l.fn.agents.me;
  seat : IsSeat l.trace l.pool l.fn.agents.me.who l.agents;
  given : l.pool ≡ in_a_row l.trace l.fn.pool l.fn.agents.me.who l._turn;
  others : (d : ℕ) → d ≢ l.fn.agents.me.who → account_at l.pool.accounts d ≡ account_at l.fn.pool.accounts d;
  start : l.pool.start ≡ l.fn.pool.start;
  before : is_client l.agents ≡ true → l.answered ≡ answered l.trace l.fn.pool l.fn.agents.me.who;
  near : is_client l.agents ≡ true → (length l.agents.entries ≡ l.answered) ⊎ (length l.agents.entries ≡ l.answered + 1);
  going : (m : ℕ) → m < l._turn → (answered l.trace (in_a_row l.trace l.fn.pool l.fn.agents.me.who m) l.fn.agents.me.who ≡ answered l.trace l.fn.pool l.fn.agents.me.who) × (is_client_busy l.trace (in_a_row l.trace l.fn.pool l.fn.agents.me.who m) l.fn.agents.me.who ≡ true);
}
