use Rattle.std.proofs.Common.{◌≡◌, ◌-◌, ◌<◌, ◌≤◌, ℕ, length}
use Rattle.std.specs.Prelude.{None, slice_index_or}
use Rattle.shm_script.specs.Values.{Traced}
use Rattle.shm_async.specs.LimitedMembers.{AreLimitedHere, IsLimitedHere}
use Rattle.shm_async.proofs.limits.poll_each.Given as goal

abbrev pub invariant-loop-at : goal.invariant-loop-at
invariant-loop-at g l = record {
  many : length l.members ≡ length l.fn.members;
  polled : (t : Traced) (turns : ℕ) → AreLimitedHere t l.pool turns l.left l.fn.members → (c : ℕ) → c < l.at → IsLimitedHere t l.pool c turns (l.left - 1) (slice_index_or l.members c None);
  rest : (t : Traced) (turns : ℕ) → AreLimitedHere t l.pool turns l.left l.fn.members → (c : ℕ) → l.at ≤ c → c < length l.members → IsLimitedHere t l.pool c turns l.left (slice_index_or l.members c None);
}
