use Rattle.std.proofs.Common.{◌≡◌, ◌+◌, ◌≤◌, length}
use Rattle.std.specs.{Prelude.◌==◌, List.slice_split}
use Rattle.shm_tree.specs.Scripts.{draft_none, reading}
use Rattle.shm_tree.proofs.parsing.parse_tree.Given as goal

abbrev pub invariant-loop-line : goal.invariant-loop-line
invariant-loop-line l = record {
  read : reading l.draft l.at (slice_split (λ b. b == 10) l.rest) ≡ reading draft_none 1 (slice_split (λ b. b == 10) l.bytes);
  small : l.at + length l.rest ≤ length l.bytes + 1;
}

abbrev pub decreases-loop-line : goal.decreases-loop-line
decreases-loop-line l = length l.rest
