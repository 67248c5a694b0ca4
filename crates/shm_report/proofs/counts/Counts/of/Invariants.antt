use Rattle.std.proofs.Common.{◌+◌, ◌*◌}
use Rattle.shm_words.specs.Layout.{bodies}
use Rattle.shm_report.specs.Counts.{Counted}
use Rattle.shm_report.proofs.counts.Counts.of.Given as goal

abbrev pub invariant-loop-page : goal.invariant-loop-page
invariant-loop-page l = Counted l.geometry l.words (bodies l.geometry + 128 * l.page) l.counts.live l.counts.refs
