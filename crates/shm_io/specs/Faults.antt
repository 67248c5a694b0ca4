-- Counts of 64 bits, and when one of them says that something failed.
use Rattle.std.specs.Prelude.{◌≡◌, ◌≢◌, ◌⊎◌, ℕ, ◌+◌, ◌-◌, ◌^◌, ◌<◌, min}

-- the count after one more; it stands still at its end
abbrev pub next_count : ℕ → ℕ
next_count n = min (n + 1) (2 ^ 64 - 1)

-- the count of faults rose; at its end a rise isn't seen, so there it counts as risen
abbrev pub Rose : ℕ → ℕ → Type 0
Rose before after = (before < after) ⊎ (after ≡ 2 ^ 64 - 1)

-- no fault: the count of faults is as it was, and doesn't stand at its end
pub record NoFault (before after : ℕ) : Type 0 where
  pub same : after ≡ before
  pub not_at_end : after ≢ 2 ^ 64 - 1
