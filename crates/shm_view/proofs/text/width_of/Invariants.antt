use Rattle.std.proofs.Common.{◌≡◌, drop}
use Rattle.shm_view.specs.{Tables.cells_of, Texts.column_width}
use Rattle.shm_view.proofs.text.width_of.Given as goal

abbrev pub invariant-loop-row : goal.invariant-loop-row
invariant-loop-row l = column_width (cells_of (drop l.row-index l.rows)) l.column l.width ≡ column_width (cells_of l.rows) l.column l.name
