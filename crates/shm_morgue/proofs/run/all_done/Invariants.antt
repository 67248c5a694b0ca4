use Rattle.std.proofs.Common.{◌≡◌, ◌++◌, ◌≤◌, length}
use Rattle.std.specs.Vec.Iter.{into_iter_items, into_iter_len}
use Rattle.shm_team.specs.Dones.{AreDones}
use Rattle.shm_morgue.specs.Slots.{AreEnough}
use Rattle.shm_morgue.proofs.run.all_done.Given as goal

abbrev pub invariant-loop-outcome : goal.invariant-loop-outcome
invariant-loop-outcome l = record {
  items : l.yielded ++ into_iter_items l.outcome-iterator ≡ l.fn.outcomes.items;
  len : into_iter_len l.outcome-iterator ≡ length (into_iter_items l.outcome-iterator);
  many : length l.dones.items ≡ length l.yielded;
  room : length l.fn.outcomes.items ≤ length l.slots;
  dones : AreDones l.trace l.pool 0 l.dones.items;
  enough : AreEnough l.trace l.pool (length l.dones.items) (into_iter_items l.outcome-iterator) l.slots;
}
