use Rattle.std.proofs.Common.{◌≡◌, length}
use Rattle.shm_audit.specs.Images.{numbers}
use Rattle.shm_view.specs.{Kinds.live_kind, Sums.AreSums}
use Rattle.shm_view.proofs.census.live.Given as goal

abbrev pub invariant-loop-at : goal.invariant-loop-at
invariant-loop-at l =
    record {
      kinds : length l.live.sums.items ≡ 33;
      sums : AreSums (live_kind l.geometry (numbers l.words)) l.at l.live.sums.items;
    }
