use Rattle.std.proofs.Common.{◌≡◌, ◌<◌, ◌++◌, length}
use Rattle.std.specs.{List.AllByRecursion, Vec.Iter.{into_iter_items, into_iter_len}}
use Rattle.shm_pool.specs.Tokens.{Token}
use Rattle.shm_team.proofs.Gathering.{JobsOf}
use Rattle.shm_team.proofs.jobs.all_jobs.Given as goal

abbrev pub invariant-loop-token : goal.invariant-loop-token
invariant-loop-token g l = record {
  items : l.yielded ++ into_iter_items l.token-iterator ≡ l.fn.tokens.items;
  len : into_iter_len l.token-iterator ≡ length (into_iter_items l.token-iterator);
  who : AllByRecursion (λ (k : Token). k.account.who < l.trace.clients) (into_iter_items l.token-iterator);
  jobs : JobsOf l.trace l.yielded l.jobs.items;
}
