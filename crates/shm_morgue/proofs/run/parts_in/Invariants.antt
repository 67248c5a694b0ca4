use Rattle.std.proofs.Common.{◌≡◌, ◌≤◌, ◌++◌, length, vec_capacity}
use Rattle.std.specs.Vec.Iter.{into_iter_items, into_iter_len}
use Rattle.shm_morgue.specs.Crew.{HaveWorked}
use Rattle.shm_morgue.proofs.run.parts_in.Given as goal

abbrev pub invariant-loop-worked : goal.invariant-loop-worked
invariant-loop-worked g l = record {
  items : l.yielded ++ into_iter_items l.worked-iterator ≡ l.fn.works.items;
  len : into_iter_len l.worked-iterator ≡ length (into_iter_items l.worked-iterator);
  many : length l.porters.items ≡ length l.yielded;
  porters_room : length l.fn.works.items ≤ vec_capacity l.porters;
  outcomes_room : length l.fn.works.items ≤ vec_capacity l.outcomes;
  outcomes_many : length l.outcomes.items ≡ length l.yielded;
  worked : HaveWorked l.trace l.pool l.morgue 0 l.porters.items l.outcomes.items;
}
