use Rattle.std.proofs.Common.{◌≡◌, ◌++◌, drop}
use Rattle.shm_versions.specs.RunTexts.{version_lines}
use Rattle.shm_versions.proofs.telling.push_holding.Given as goal

abbrev pub invariant-loop-at : goal.invariant-loop-at
invariant-loop-at l = l.text.items ++ version_lines l.at (drop l.at l.holding.sizes) ≡ l.fn.text.items ++ version_lines 0 l.holding.sizes
