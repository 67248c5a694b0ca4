use Rattle.std.proofs.Common.{[], ◌∷◌, ◌++◌, ap, ◌∙◌}
use Rattle.shm_view.specs.Tables.{cells_of}
use Rattle.shm_view.proofs.tables.push_identity.Goals as goal

pub returns : goal.returns
returns c = c.in_ok-push_row.ensures ∙ ap (λ row. cells_of c.args.rows.now.items ++ row ∷ []) c.identity_cells.ensures
