use Rattle.std.proofs.Common.{◌≡◌, ◌++◌, take}
use Rattle.std.specs.List.{flat_map}
use Rattle.shm_report.specs.{Report.row_line, TableRows.rows_seen}
use Rattle.shm_report.proofs.texts.push_rows.Given as goal

abbrev pub invariant-loop-row : goal.invariant-loop-row
invariant-loop-row l = l.text.items ≡ l.initial.text.items ++ flat_map (row_line l.names.blocks.items) (rows_seen (take l.row-index l.rows))
