use Rattle.std.proofs.Common.{◌≡◌, ◌++◌, map}
use Rattle.shm_report.specs.{Report.{in_order, row_of}, TableRows.{EachTable, rows_seen}}
use Rattle.shm_report.proofs.table_rows.push_rows.Given as goal

abbrev pub invariant-loop-key : goal.invariant-loop-key
invariant-loop-key l = EachTable l.fn.geometry l.fn.words (λ table. rows_seen l.rows.items ++ map (row_of l.c) l.key-iterator ≡ rows_seen l.fn.rows.items ++ map (row_of l.c) (in_order (table l.c)))
