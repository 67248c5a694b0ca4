use Rattle.std.proofs.Common.{◌≡◌, ap, ◌∙◌, arith}
use Rattle.shm_report.specs.Report.{add_entries, entries_below}
use Rattle.shm_report.proofs.TableReading.{bucket_read, add_bucket}
use Rattle.shm_report.proofs.table_rows.add_buckets.Goals as goal

pub loop-bucket-preserved : goal.loop-bucket-preserved
loop-bucket-preserved c = λ is n pool table holds.
    let chain = bucket_read c.args.geometry c.args.words.now c.args.c c.args.home c.loop-bucket.bucket c.small_behind.result table pool c.requires holds is n c.loop-bucket-test.true c.small_behind.ensures in
    add_bucket (table c.args.c) c.loop-bucket.bucket _ _ _ (c.loop-bucket.invariant is n pool table holds) (c.in_ok-add_chain.ensures (table c.args.c c.loop-bucket.bucket) pool chain)

pub returns : goal.returns
returns c = λ is n pool table holds.
    let e : c.loop-bucket.bucket ≡ 16 = omega arith in
    c.loop-bucket.invariant is n pool table holds ∙ ap (λ n. add_entries c.args.entries.now.entries (entries_below n (table c.args.c))) e
