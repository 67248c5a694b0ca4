use Rattle.std.proofs.Common.{◌≡◌, length}
use Rattle.shm_audit.specs.Images.{numbers}
use Rattle.shm_view.specs.{Kinds.count_kind, Sums.AreSums}
use Rattle.shm_view.proofs.census.counts.Given as goal

abbrev pub invariant-loop-at : goal.invariant-loop-at
invariant-loop-at l =
    record {
      kinds : length l.counts.sums.items ≡ 1024;
      sums : AreSums (count_kind l.geometry (numbers l.words)) l.at l.counts.sums.items;
    }
