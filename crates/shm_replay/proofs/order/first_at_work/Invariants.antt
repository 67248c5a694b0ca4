use Rattle.std.proofs.Common.{◌≡◌, ℕ, ◌<◌, ◌≤◌, false}
use Rattle.std.specs.Prelude.{None, slice_index_or}
use Rattle.shm_replay.specs.AtWork.{has_work}
use Rattle.shm_replay.proofs.order.first_at_work.Given as goal

abbrev pub invariant-loop-who : goal.invariant-loop-who
invariant-loop-who g l = record { before : (c : ℕ) → l.from ≤ c → c < l.who → has_work (slice_index_or l.agents c None) ≡ false }
