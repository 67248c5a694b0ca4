use Rattle.std.proofs.Common.{◌≡◌, ◌++◌, drop}
use Rattle.shm_view.specs.Tables.{cells_of, identity_rows}
use Rattle.shm_view.proofs.tables.identities_table.Given as goal

abbrev pub invariant-loop-number : goal.invariant-loop-number
invariant-loop-number l = cells_of l.rows.items ++ identity_rows l.number (drop l.number l.identities) ≡ identity_rows 0 l.identities
