use Rattle.std.proofs.Common.{◌≡◌, ◌++◌}
use Rattle.std.specs.Slice.Iter.{iter_rest}
use Rattle.shm_versions.specs.RunTexts.{answered_lines}
use Rattle.shm_versions.proofs.telling.push_lines.Given as goal

abbrev pub invariant-loop-line : goal.invariant-loop-line
invariant-loop-line l = l.text.items ++ answered_lines (iter_rest l.line-iterator.a) (iter_rest l.line-iterator.b) ≡ l.fn.text.items ++ answered_lines l.lines l.answers
