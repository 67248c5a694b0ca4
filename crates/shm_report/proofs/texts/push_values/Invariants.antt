use Rattle.std.proofs.Common.{◌≡◌, ◌++◌, ◌+◌, drop}
use Rattle.shm_graph.specs.{Spots.see, Blocks.headers}
use Rattle.shm_report.specs.Report.{value_lines}
use Rattle.shm_report.proofs.texts.push_values.Given as goal

abbrev pub invariant-loop-i : goal.invariant-loop-i
invariant-loop-i l = l.text.items ++ value_lines (λ v. (headers (see l.geometry l.words) v).count) (l.i + 1) (drop l.i l.blocks) ≡ l.initial.text.items ++ value_lines (λ v. (headers (see l.geometry l.words) v).count) 1 l.blocks
