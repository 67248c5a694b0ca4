use Rattle.std.proofs.Common.{◌≡◌, ◌++◌, [], length}
use Rattle.std.specs.{List.{All, AllByRecursion}, Vec.Iter.{into_iter_items, into_iter_len}}
use Rattle.shm_morgue.specs.{Crew.IsRound, Entries.Takes}
use Rattle.shm_morgue.proofs.run.all_rounds.Given as goal

abbrev pub invariant-loop-medic : goal.invariant-loop-medic
invariant-loop-medic g l = record {
  items : l.yielded ++ into_iter_items l.medic-iterator ≡ l.fn.medics.items;
  len : into_iter_len l.medic-iterator ≡ length (into_iter_items l.medic-iterator);
  many : length l.rounds.items ≡ length l.yielded;
  first : AllByRecursion (λ (m : Takes). m ≡ record { of = l.morgue; entries = [] }) (into_iter_items l.medic-iterator);
  rounds : All (λ r. IsRound l.trace l.pool l.morgue r.medic r.slots.items) l.rounds.items;
}
