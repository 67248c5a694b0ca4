use Rattle.std.proofs.Common.{◌≡◌, ◌≤◌, ◌-◌, [], length}
use Rattle.shm_io.specs.Reading.{ReadsOn}
use Rattle.shm_io.proofs.reading.read_to_limit.Given as goal

abbrev pub invariant-loop-piece : goal.invariant-loop-piece
invariant-loop-piece g l = record {
  size : length l.bytes.items ≤ l.limit;
  read : ReadsOn (g.S.Source.left l.initial.source) (g.S.Source.left l.source) [] l.bytes.items (length l.bytes.items);
  faults : g.S.Source.faults l.source ≡ g.S.Source.faults l.initial.source;
}

abbrev pub decreases-loop-piece : goal.decreases-loop-piece
decreases-loop-piece g l = l.limit - length l.bytes.items
