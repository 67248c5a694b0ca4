use Rattle.std.proofs.Common.{◌≡◌, ◌++◌, [], vec_len}
use Rattle.shm_pool.specs.Tokens.{its, AllOf, AllStill, accounts_of}
use Rattle.shm_pool.proofs.closing.take_in.Given as goal

abbrev pub invariant-loop-token : goal.invariant-loop-token
invariant-loop-token l = record {
  same_table : l.seat.table_id ≡ l.top.table_id;
  empty : l.seat.me.1 ≡ [];
  view : accounts_of l.initial.all.items ≡ accounts_of l.all.items ++ l.seat.me.0;
  of : AllOf (its l.top.table_id l.top.key) l.all.items;
  still : AllStill l.seat.me.0;
}

abbrev pub decreases-loop-token : goal.decreases-loop-token
decreases-loop-token l = vec_len l.all
