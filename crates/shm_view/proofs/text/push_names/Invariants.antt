use Rattle.std.proofs.Common.{◌≡◌, ◌++◌, drop}
use Rattle.shm_view.specs.{Tables.names_of, Texts.texts_from}
use Rattle.shm_view.proofs.text.push_names.Given as goal

abbrev pub invariant-loop-column : goal.invariant-loop-column
invariant-loop-column l = l.text.items ++ texts_from l.widths l.column (names_of (drop l.column l.names)) ≡ l.initial.text.items ++ texts_from l.widths 0 (names_of l.names)
