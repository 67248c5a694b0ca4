use Rattle.std.proofs.Common.{◌≤◌, List, [], ◌∷◌, ◌++◌, length, codes, sym, ap, ◌∙◌, append-nil, arith}
use Rattle.std.proofs.lemmas.List.{drop_all}
use Rattle.shm_view.specs.Tables.{cells_of, identities_grid, identity_rows}
use Rattle.shm_view.proofs.Tabling.{table_of}
use Rattle.shm_view.proofs.tables.identities_table.Goals as goal

pub returns : goal.returns
unfolding identities_grid
returns c =
    let number = c.loop-number.number in
    let identities = c.args.identities.now in
    let rows = c.loop-number.rows.items in
    let all : length identities ≤ number = omega arith in
    let rest = ap (λ left. cells_of rows ++ identity_rows number left) (drop_all number identities all) in
    table_of c.table.result (codes "clients")
    (codes "client" ∷ codes "status" ∷ codes "holds" ∷ codes "holder" ∷ codes "home" ∷ codes "roots" ∷ codes "waiting" ∷ codes "keys" ∷ codes "longest" ∷ []) _ _
    (sym (append-nil (cells_of rows)) ∙ sym rest ∙ c.loop-number.invariant) c.table.ensures
