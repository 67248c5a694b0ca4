use Rattle.std.proofs.Common.{◌≡◌}
use Rattle.shm_view.specs.Tables.{cells_of, count_rows, rows_below}
use Rattle.shm_view.proofs.tables.counts_table.Given as goal

abbrev pub invariant-loop-count : goal.invariant-loop-count
invariant-loop-count l = cells_of l.rows.items ≡ rows_below l.count (count_rows l.counts)
