use Rattle.std.proofs.Common.{◌≡◌, ◌-◌, ◌+◌, ◌%◌, ◌<◌, ◌≤◌}
use Rattle.shm_report.specs.Counts.{Counted}
use Rattle.shm_report.proofs.counts.Counts.blocks.Given as goal

abbrev pub invariant-loop-at : goal.invariant-loop-at
invariant-loop-at l =
    record {
      start : l.first ≤ l.at;
      end : l.at < l.first + 256;
      block : (l.at - l.first) % l.step ≡ 0;
      inside : l.at ≤ l.first + 128 → Counted l.geometry l.words l.at l.self.live l.self.refs;
      past : l.first + 128 ≤ l.at → Counted l.geometry l.words (l.first + 128) l.self.live l.self.refs;
    }

abbrev pub decreases-loop-at : goal.decreases-loop-at
decreases-loop-at l = l.first + 128 - l.at
