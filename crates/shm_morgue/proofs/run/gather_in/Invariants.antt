use Rattle.std.proofs.Common.{◌≡◌, ◌≤◌, ◌++◌, length, vec_capacity}
use Rattle.std.specs.{List.AllByRecursion, Vec.Iter.{into_iter_items, into_iter_len}}
use Rattle.shm_morgue.specs.{Entries.{Takes, all_taken}, Slots.AreRescued}
use Rattle.shm_morgue.proofs.run.gather_in.Given as goal

abbrev pub invariant-loop-round : goal.invariant-loop-round
invariant-loop-round g l = record {
  items : l.yielded ++ into_iter_items l.round-iterator ≡ l.fn.rounds.items;
  len : into_iter_len l.round-iterator ≡ length (into_iter_items l.round-iterator);
  many : length l.medics.items ≡ length l.yielded;
  room : length l.fn.rounds.items ≤ vec_capacity l.medics;
  of : AllByRecursion (λ (m : Takes). m.of ≡ l.morgue) l.medics.items;
  rescued : AreRescued l.trace l.pool (all_taken l.medics.items) l.slots.items;
}
