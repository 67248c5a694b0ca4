use Rattle.std.proofs.Common.{◌≡◌, ◌≤◌, ◌-◌, [], vec_capacity}
use Rattle.crossbeam_queue.specs.Passes.{IsPassOf, view}
use Rattle.shm_morgue.specs.{Entries.first_medics, Hands.{blank_lists, hands, which}}
use Rattle.shm_morgue.proofs.making.cut_medics.Given as goal

abbrev pub invariant-loop-medic : goal.invariant-loop-medic
invariant-loop-medic g l = record {
  of : IsPassOf l.queue l.home;
  same : which l.home ≡ which l.initial.home;
  view_is : view l.home ≡ hands [] (blank_lists (l.doctors - l._medic)) l.clients l.doctors;
  made : l.medics.items ≡ first_medics (which l.initial.home) l._medic;
  room : l.doctors ≤ vec_capacity l.medics;
}
