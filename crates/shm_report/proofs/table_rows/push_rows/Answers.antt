use Rattle.std.proofs.{Common.{◌++◌, map, ap, ◌∙◌, sym}, lemmas.List.append-nil}
use Rattle.shm_report.specs.{Report.row_of, TableRows.rows_seen}
use Rattle.shm_report.proofs.table_rows.push_rows.Goals as goal

pub returns : goal.returns
returns c = λ pool table holds.
    sym (append-nil (rows_seen c.loop-key.rows.items)) ∙ (ap (λ rest. rows_seen c.loop-key.rows.items ++ map (row_of c.args.c) rest) (sym c.in-None.ensures.steps.0) ∙ c.loop-key.invariant pool table holds)
