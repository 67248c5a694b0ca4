use Rattle.std.proofs.Common.{◌≡◌, ◌++◌, map, take}
use Rattle.shm_view.specs.{Tables.grid_of, Texts.grids_text}
use Rattle.shm_view.proofs.text.push_tables.Given as goal

abbrev pub invariant-loop-table : goal.invariant-loop-table
invariant-loop-table l = l.text.items ≡ l.initial.text.items ++ grids_text (map grid_of (take l.table-index l.tables))
