use Rattle.std.proofs.Common.{◌≡◌, ◌≤◌, ◌-◌, [], length, take}
use Rattle.shm_io.specs.Reading.{ReadsOn}
use Rattle.shm_io.proofs.full.read_full.Given as goal

abbrev pub invariant-loop-filled : goal.invariant-loop-filled
invariant-loop-filled g l = record {
  size : l.filled ≤ length l.into;
  read : ReadsOn (g.S.Source.left l.initial.source) (g.S.Source.left l.source) [] (take l.filled l.into) l.filled;
  faults : g.S.Source.faults l.source ≡ g.S.Source.faults l.initial.source;
}

abbrev pub decreases-loop-filled : goal.decreases-loop-filled
decreases-loop-filled g l = length l.into - l.filled
