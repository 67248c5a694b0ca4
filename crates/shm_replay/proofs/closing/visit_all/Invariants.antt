use Rattle.std.proofs.Common.{◌≡◌, ℕ, ◌<◌, ◌≤◌, true}
use Rattle.std.specs.Prelude.{None, slice_index_or}
use Rattle.shm_graph.specs.{declared.memo.Status.TheVariants.Gone, Runs.account_at}
use Rattle.shm_plain.specs.Pools.{IsRun, memo_of}
use Rattle.shm_replay.specs.Closings.{AreVisits, HasTold, SameTable, is_dead}
use Rattle.shm_replay.proofs.closing.visit_all.Given as goal

abbrev pub invariant-loop-client : goal.invariant-loop-client
invariant-loop-client g l = record {
  geometry : l.geometry ≡ l.fn.pool.start.geometry;
  clients : l.client-end ≡ l.fn.pool.start.geometry.clients;
  start : l.pool.start ≡ l.fn.pool.start;
  run : IsRun l.pool;
  visits : AreVisits 0 l.client l.fn.pool l.pool;
  gone : (c : ℕ) → c < l.client → (memo_of l.pool c).status ≡ Gone;
  table : (c : ℕ) → SameTable (memo_of l.fn.pool c) (memo_of l.pool c);
  told : (c : ℕ) → c < l.client → is_dead (slice_index_or l.agents c None) ≡ true → HasTold (account_at l.fn.pool.accounts c) (account_at l.pool.accounts c);
  later : (c : ℕ) → l.client ≤ c → account_at l.pool.accounts c ≡ account_at l.fn.pool.accounts c;
}
