use Rattle.std.proofs.Common.{◌≡◌}
use Rattle.shm_view.specs.Tables.{cells_of, owner_rows, rows_below}
use Rattle.shm_view.proofs.tables.owners_table.Given as goal

abbrev pub invariant-loop-owner : goal.invariant-loop-owner
invariant-loop-owner l = cells_of l.rows.items ≡ rows_below l.owner (owner_rows l.owners)
