use Rattle.std.proofs.Common.{◌≡◌, ◌++◌, drop}
use Rattle.shm_view.specs.{Tables.{cells_of, names_of}, Texts.widths_from}
use Rattle.shm_view.proofs.text.widths_of.Given as goal

abbrev pub invariant-loop-column : goal.invariant-loop-column
invariant-loop-column l = l.widths.items ++ widths_from (cells_of l.rows) l.column (names_of (drop l.column l.names)) ≡ widths_from (cells_of l.rows) 0 (names_of l.names)
