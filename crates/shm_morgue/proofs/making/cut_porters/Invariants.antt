use Rattle.std.proofs.Common.{◌≡◌, ◌≤◌, ◌-◌, vec_capacity}
use Rattle.crossbeam_queue.specs.Passes.{IsPassOf, view}
use Rattle.shm_morgue.specs.{Entries.first_porters, Hands.{blank_desks, blank_lists, hands, which}}
use Rattle.shm_morgue.proofs.making.cut_porters.Given as goal

abbrev pub invariant-loop-client : goal.invariant-loop-client
invariant-loop-client g l = record {
  of : IsPassOf l.queue l.home;
  same : which l.home ≡ which l.initial.home;
  view_is : view l.home ≡ hands (blank_desks l.client (l.clients - l.client)) (blank_lists l.doctors) l.clients l.doctors;
  made : l.porters.items ≡ first_porters (which l.initial.home) 0 l.client;
  room : l.clients ≤ vec_capacity l.porters;
}
