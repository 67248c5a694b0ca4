use Rattle.std.proofs.Common.{◌≡◌, ℕ, ◌<◌, ◌≤◌, length, vec_capacity}
use Rattle.std.specs.Prelude.{None, slice_index_or}
use Rattle.shm_plain.specs.Pools.{first_pool}
use Rattle.shm_replay.specs.{Replays.start_of, Seats.Seat}
use Rattle.shm_watch.proofs.watching.all_agents.Given as goal

abbrev pub invariant-loop-who : goal.invariant-loop-who
invariant-loop-who g l = record {
  many : length l.all.items ≡ l.who;
  room : l.trace.clients ≤ vec_capacity l.all;
  seats : (c : ℕ) → c < l.who → Seat l.trace (first_pool (start_of l.trace)) c (slice_index_or l.all.items c None);
}
