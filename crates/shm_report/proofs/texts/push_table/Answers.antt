use Rattle.std.proofs.{Common.{◌<◌, [], eqb, length, get_or, sym, ap, ◌∙◌, arith}, lemmas.List.{get_or-map, length-map}}
use Rattle.std.specs.List.{list_any}
use Rattle.shm_report.specs.{Report.named_from, TableRows.{row_seen, rows_seen}}
use Rattle.shm_report.proofs.ValueNaming.{named_at}
use Rattle.shm_report.proofs.texts.push_table.Goals as goal

pub push_rows-requires-clause-named : goal.push_rows-requires-clause-named
push_rows-requires-clause-named c = λ k d _ l.
    let rows = c.args.rows.now in
    let m : k < length (rows_seen rows) = omega (arith, length-map rows row_seen) in
    let n = named_at (rows_seen rows) [] k (row_seen d) m in
    let e = get_or-map row_seen rows k d (row_seen d) l in
    ap (list_any (eqb (get_or rows k d).value)) c.in_ok-names.ensures.blocks ∙ (ap (λ r. list_any (eqb r.value) (named_from [] (rows_seen rows))) (sym e) ∙ n)
