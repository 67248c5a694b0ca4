use Rattle.std.proofs.Common.{◌≡◌, ◌-◌, []}
use Rattle.shm_graph.specs.Runs.{accounts_from}
use Rattle.shm_pool.specs.Tokens.{its, first_tokens}
use Rattle.shm_pool.proofs.pool.SharedPool.make.Given as goal

abbrev pub invariant-loop-who : goal.invariant-loop-who
invariant-loop-who l = record {
  same_table : l.rest.table_id ≡ l.words.shared.table_id;
  view : l.rest.me ≡ (accounts_from l.start l.who (l.start.geometry.clients - l.who), []);
  made : l.all.items ≡ first_tokens (its l.words.shared.table_id l.start) 0 l.who;
}
