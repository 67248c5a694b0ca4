use Rattle.std.proofs.Common.{◌≡◌, ◌≤◌, ◌-◌, ℕ, List, length}
use Rattle.shm_io.specs.Reading.{TakesFront}
use Rattle.shm_io.proofs.full.skip_to_limit.Given as goal

abbrev pub invariant-loop-skipped : goal.invariant-loop-skipped
invariant-loop-skipped g l = record {
  size : l.skipped ≤ l.limit;
  read : (bytes : List ℕ) × (length bytes ≡ l.skipped) × TakesFront (g.S.Source.left l.initial.source) (g.S.Source.left l.source) l.skipped bytes;
  faults : g.S.Source.faults l.source ≡ g.S.Source.faults l.initial.source;
}

abbrev pub decreases-loop-skipped : goal.decreases-loop-skipped
decreases-loop-skipped g l = l.limit - l.skipped
