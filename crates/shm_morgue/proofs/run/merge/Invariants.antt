use Rattle.std.proofs.Common.{◌≡◌, ℕ, ◌<◌, ◌≤◌, length}
use Rattle.std.specs.Prelude.{None, slice_index_or}
use Rattle.shm_morgue.specs.Slots.{either}
use Rattle.shm_morgue.proofs.run.merge.Given as goal

abbrev pub invariant-loop-at : goal.invariant-loop-at
invariant-loop-at l = record {
  many : length l.slots ≡ length l.initial.slots;
  rest : length l.others ≡ length l.initial.others;
  done : (c : ℕ) → c < l.at → slice_index_or l.slots c None ≡ either (slice_index_or l.initial.others c None) (slice_index_or l.initial.slots c None);
  same : (c : ℕ) → l.at ≤ c → slice_index_or l.slots c None ≡ slice_index_or l.initial.slots c None;
  left : (c : ℕ) → l.at ≤ c → slice_index_or l.others c None ≡ slice_index_or l.initial.others c None;
}
