use Rattle.std.proofs.Common.{[], ◌∷◌, codes, ap, ◌∙◌}
use Rattle.shm_view.specs.Tables.{pool_grid}
use Rattle.shm_view.proofs.Tabling.{one_row, table_of}
use Rattle.shm_view.proofs.tables.pool_table.Goals as goal

pub returns : goal.returns
unfolding pool_grid
returns c =
    let row = one_row _ _ _ c.new-rows.ensures.items c.in_ok-push_row.ensures in
    table_of c.table.result (codes "pool") (codes "format" ∷ codes "clients" ∷ codes "segments" ∷ codes "words" ∷ []) _ _ (row ∙ ap (λ r. r ∷ []) c.pool_cells.ensures) c.table.ensures
