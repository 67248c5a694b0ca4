use Rattle.shm_report.specs.Counts.{Counted}
use Rattle.shm_report.proofs.counts.Counts.front.Given as goal

abbrev pub invariant-loop-at : goal.invariant-loop-at
invariant-loop-at l = Counted l.geometry l.words l.at l.self.live l.self.refs
