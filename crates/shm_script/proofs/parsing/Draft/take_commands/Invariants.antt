use Rattle.std.proofs.Common.{◌≡◌, ◌+◌, ◌≤◌, length}
use Rattle.std.specs.{Prelude.◌==◌, List.slice_split}
use Rattle.shm_script.specs.Drafts.{reading}
use Rattle.shm_script.proofs.parsing.Draft.take_commands.Given as goal

abbrev pub invariant-loop-others : goal.invariant-loop-others
invariant-loop-others l = record {
  read : reading l.self l.at (slice_split (λ b. b == 10) l.rest) ≡ reading l.fn.self l.fn.at (slice_split (λ b. b == 10) l.text);
  small : l.at + length l.rest ≤ l.fn.at + length l.text;
  less : length l.rest ≤ length l.text;
}

abbrev pub decreases-loop-others : goal.decreases-loop-others
decreases-loop-others l = length l.rest
