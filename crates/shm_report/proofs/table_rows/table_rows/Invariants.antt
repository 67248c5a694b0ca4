use Rattle.std.proofs.Common.{◌≡◌}
use Rattle.shm_report.specs.{Report.rows_below, TableRows.{EachTable, rows_seen}}
use Rattle.shm_report.proofs.table_rows.table_rows.Given as goal

abbrev pub invariant-loop-c : goal.invariant-loop-c
invariant-loop-c l = EachTable l.geometry l.words (λ table. rows_seen l.rows.items ≡ rows_below l.c table)
