use Rattle.std.proofs.Common.{◌≡◌, [], ◌∷◌, codes, ap, ◌∙◌, arith}
use Rattle.shm_view.specs.Tables.{count_rows, counts_grid, rows_below}
use Rattle.shm_view.proofs.Tabling.{no_rows, rows_more, table_of}
use Rattle.shm_view.proofs.tables.counts_table.Goals as goal

pub loop-count-init : goal.loop-count-init
loop-count-init c = no_rows (count_rows c.args.counts.now) _ c.new-rows.ensures.items

pub loop-count-preserved : goal.loop-count-preserved
loop-count-preserved c = rows_more (count_rows c.args.counts.now) c.loop-count.count _ _ c.in_ok-push_count.ensures c.loop-count.invariant

pub returns : goal.returns
unfolding counts_grid
returns c =
    let all : c.loop-count.count ≡ 1024 = omega arith in
    table_of c.table.result (codes "counts") (codes "count" ∷ codes "blocks" ∷ []) _ _ (c.loop-count.invariant ∙ ap (λ n. rows_below n (count_rows c.args.counts.now)) all) c.table.ensures
