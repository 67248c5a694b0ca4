use Rattle.std.proofs.Common.{◌≡◌, ℕ, List, [], ◌∷◌, map, take, codes, ap, ◌∙◌, arith}
use Rattle.shm_view.specs.Tables.{class_row, classes_grid}
use Rattle.shm_view.proofs.Tabling.{table_of}
use Rattle.shm_view.proofs.tables.classes_table.Goals as goal

pub returns : goal.returns
unfolding classes_grid
returns c =
    let all : c.loop-class.class-index ≡ 5 = omega arith in
    let classes : List ℕ = 0 ∷ 4 ∷ 8 ∷ 16 ∷ 32 ∷ [] in
    table_of c.table.result (codes "classes") (codes "class" ∷ codes "pages" ∷ codes "live" ∷ codes "free" ∷ []) _ _ (c.loop-class.invariant ∙ ap (λ n. map (class_row c.args.census.now) (take n classes)) all) c.table.ensures
