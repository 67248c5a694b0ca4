use Rattle.std.proofs.Common.{◌≡◌, [], drop}
use Rattle.shm_report.specs.{Report.named_from, TableRows.rows_seen, ValueNames.IsNumbered}
use Rattle.shm_report.proofs.value_names.ValueNames.of_rows.Given as goal

abbrev pub invariant-loop-row : goal.invariant-loop-row
invariant-loop-row l =
    record {
      numbered : IsNumbered l.names;
      named : named_from l.names.blocks.items (rows_seen (drop l.row-index l.rows)) ≡ named_from [] (rows_seen l.rows);
    }
