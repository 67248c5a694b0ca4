use Rattle.std.proofs.Common.{◌≡◌, ◌+◌, ◌-◌, ◌≤◌, ◌==◌, cond, get_or}
use Rattle.shm_graph.specs.References.{sum_below}
use Rattle.shm_report.proofs.counts.Counts.names.Given as goal

abbrev pub invariant-loop-at : goal.invariant-loop-at
invariant-loop-at l =
    record {
      start : l.from ≤ l.at;
      refs : l.self.refs ≡ l.fn.self.refs + sum_below (l.at - l.from) (λ i. cond (get_or l.words (l.from + i) 0 == 0) 0 1);
      live : l.self.live ≡ l.fn.self.live;
    }
