use Rattle.std.proofs.Common.{◌≡◌, ◌<◌}
use Rattle.shm_graph.specs.{declared.spot.Spot.TheVariants.Home, Spots.see}
use Rattle.shm_report.specs.{Report.{add_entries, entries_below}, TableRows.EachTable}
use Rattle.shm_report.proofs.table_rows.add_buckets.Given as goal

abbrev pub invariant-loop-bucket : goal.invariant-loop-bucket
invariant-loop-bucket l = see l.geometry l.words (Home l.c) ≡ l.home → 0 < l.home → EachTable l.geometry l.words (λ table. l.entries.entries ≡ add_entries l.initial.entries.entries (entries_below l.bucket (table l.c)))
