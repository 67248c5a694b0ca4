use Rattle.std.proofs.Common.{◌≡◌, ◌+◌, [], ◌∷◌, codes, ap, ◌∙◌, arith}
use Rattle.shm_view.specs.Tables.{owner_rows, owners_grid, rows_below}
use Rattle.shm_view.proofs.Tabling.{no_rows, rows_more, table_of}
use Rattle.shm_view.proofs.tables.owners_table.Goals as goal

pub loop-owner-init : goal.loop-owner-init
loop-owner-init c = no_rows (owner_rows c.args.owners.now) _ c.new-rows.ensures.items

pub loop-owner-preserved : goal.loop-owner-preserved
loop-owner-preserved c = rows_more (owner_rows c.args.owners.now) c.loop-owner.owner _ _ c.in_ok-push_owner.ensures c.loop-owner.invariant

pub returns : goal.returns
unfolding owners_grid
returns c =
    let all : c.loop-owner.owner ≡ c.args.geometry.clients + 1 = omega arith in
    table_of c.table.result (codes "segments") (codes "owner" ∷ codes "segments" ∷ []) _ _ (c.loop-owner.invariant ∙ ap (λ n. rows_below n (owner_rows c.args.owners.now)) all) c.table.ensures
