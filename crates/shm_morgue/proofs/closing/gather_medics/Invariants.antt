use Rattle.std.proofs.Common.{◌≡◌, ◌++◌, [], vec_len}
use Rattle.std.specs.List.{AllByRecursion}
use Rattle.crossbeam_queue.specs.Passes.{view}
use Rattle.shm_morgue.specs.{Closing.{IsPlaceOf, lists_of}, Entries.Takes, Hands.hands}
use Rattle.shm_morgue.proofs.closing.gather_medics.Given as goal

abbrev pub invariant-loop-medic : goal.invariant-loop-medic
invariant-loop-medic g l = record {
  place : IsPlaceOf l.morgue l.place;
  view_is : view l.place ≡ hands [] (view l.place).medics l.morgue.clients l.morgue.medics;
  all : lists_of l.fn.medics.items ≡ lists_of l.medics.items ++ (view l.place).medics;
  of : AllByRecursion (λ (m : Takes). m.of ≡ l.morgue) l.medics.items;
}

abbrev pub decreases-loop-medic : goal.decreases-loop-medic
decreases-loop-medic g l = vec_len l.medics
