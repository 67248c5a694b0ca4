use Rattle.std.proofs.Common.{◌≡◌, ◌++◌, vec_len}
use Rattle.std.specs.List.{AllByRecursion}
use Rattle.crossbeam_queue.specs.Passes.{view}
use Rattle.shm_morgue.specs.{Closing.{IsPlaceOf, desks_of}, Entries.Puts, Hands.hands}
use Rattle.shm_morgue.proofs.closing.gather_porters.Given as goal

abbrev pub invariant-loop-porter : goal.invariant-loop-porter
invariant-loop-porter g l = record {
  place : IsPlaceOf l.morgue l.place;
  view_is : view l.place ≡ hands (view l.place).porters (view l.fn.place).medics l.morgue.clients l.morgue.medics;
  all : desks_of l.fn.porters.items ≡ desks_of l.porters.items ++ (view l.place).porters;
  of : AllByRecursion (λ (p : Puts). p.of ≡ l.morgue) l.porters.items;
}

abbrev pub decreases-loop-porter : goal.decreases-loop-porter
decreases-loop-porter g l = vec_len l.porters
