use Rattle.std.proofs.Common.{◌≡◌, List, ◌++◌, length}
use Rattle.std.specs.Vec.Iter.{into_iter_items, into_iter_len}
use Rattle.shm_morgue.specs.{declared.rule.Taken.Taken, Slots.AreRescued}
use Rattle.shm_morgue.proofs.run.rescue_all.Given as goal

abbrev pub invariant-loop-taken : goal.invariant-loop-taken
invariant-loop-taken g l = record {
  items : l.yielded ++ into_iter_items l.taken-iterator ≡ l.fn.left.items;
  len : into_iter_len l.taken-iterator ≡ length (into_iter_items l.taken-iterator);
  many : length l.slots ≡ l.pool.start.geometry.clients;
  rescued : (xs : List Taken) → AreRescued l.trace l.pool xs l.initial.slots → AreRescued l.trace l.pool (xs ++ l.yielded) l.slots;
}
