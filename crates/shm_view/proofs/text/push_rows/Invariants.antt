use Rattle.std.proofs.Common.{◌≡◌, ◌++◌, take}
use Rattle.shm_view.specs.{Tables.cells_of, Texts.lines_of}
use Rattle.shm_view.proofs.text.push_rows.Given as goal

abbrev pub invariant-loop-row : goal.invariant-loop-row
invariant-loop-row l = l.text.items ≡ l.initial.text.items ++ lines_of l.widths (cells_of (take l.row-index l.rows))
