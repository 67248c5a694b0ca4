use Rattle.std.proofs.Common.{◌≡◌, ◌++◌, map, drop}
use Rattle.shm_view.specs.Texts.{cell_text, texts_from}
use Rattle.shm_view.proofs.text.push_row.Given as goal

abbrev pub invariant-loop-column : goal.invariant-loop-column
invariant-loop-column l = l.text.items ++ texts_from l.widths l.column (map cell_text (drop l.column l.row)) ≡ l.initial.text.items ++ texts_from l.widths 0 (map cell_text l.row)
