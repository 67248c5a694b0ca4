use Rattle.std.proofs.Common.{◌++◌, map, ap, ◌∙◌, add-one}
use Rattle.shm_report.specs.Report.{in_order, row_of}
use Rattle.shm_report.proofs.table_rows.table_rows.Goals as goal

pub loop-c-preserved : goal.loop-c-preserved
loop-c-preserved c = λ pool table holds.
    rw add-one (c.in_ok-push_rows.ensures pool table holds ∙ ap (λ rows. rows ++ map (row_of c.loop-c.c) (in_order (table c.loop-c.c))) (c.loop-c.invariant pool table holds))
