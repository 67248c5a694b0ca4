use Rattle.std.proofs.Common.{◌≡◌, [], ◌∷◌, take, map}
use Rattle.shm_view.specs.Tables.{cells_of, class_row}
use Rattle.shm_view.proofs.tables.classes_table.Given as goal

abbrev pub invariant-loop-class : goal.invariant-loop-class
invariant-loop-class l = cells_of l.rows.items ≡ map (class_row l.census) (take l.class-index (0 ∷ 4 ∷ 8 ∷ 16 ∷ 32 ∷ []))
