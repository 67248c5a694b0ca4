use Rattle.std.proofs.Common.{◌≡◌, ◌≤◌, vec_capacity}
use Rattle.std.specs.Prelude.{None, replicate}
use Rattle.shm_morgue.proofs.medic.blank_slots.Given as goal

abbrev pub invariant-loop-client : goal.invariant-loop-client
invariant-loop-client l = record {
  items : l.slots.items ≡ replicate l._client None;
  room : l.clients ≤ vec_capacity l.slots;
}
