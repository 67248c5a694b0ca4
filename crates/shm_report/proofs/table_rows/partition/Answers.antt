use Rattle.std.proofs.Common.{◌<◌, ap, ◌∙◌, arith}
use Rattle.shm_report.specs.Report.{add_entries, entries_below}
use Rattle.shm_report.proofs.TableReading.{home_read, no_entries}
use Rattle.shm_report.proofs.table_rows.partition.Goals.{then-home-ne0+in_ok-add_buckets, else-home-ne0}
use Rattle.shm_report.proofs.table_rows.partition.Goals as goal

pub returns : goal.returns
returns c = λ pool table holds.
    let e = home_read c.args.geometry c.args.words.now c.args.c c.small_behind-home.result c.home.result pool c.requires.client c.home.ensures c.small_behind-home.ensures in
    elim c.if-home-ne0.branch [
      | then-home-ne0+in_ok-add_buckets w ↦ (let n : 0 < c.small_behind-home.result = omega (arith, w.if-home-ne0.true) in ap (λ m. m.entries) w.entries-is ∙ (w.in_ok-add_buckets.ensures e n pool table holds ∙ ap (λ m. add_entries m (entries_below 16 (table c.args.c))) c.new-entries.ensures.empty))
      | else-home-ne0 w ↦ ap (λ m. m.entries) w.entries-is ∙ (c.new-entries.ensures.empty ∙ no_entries c.args.geometry c.args.words.now c.args.c table c.requires.client holds (e ∙ w.if-home-ne0.false))
    ]
