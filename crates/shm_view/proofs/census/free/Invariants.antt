use Rattle.std.proofs.Common.{◌≡◌, length}
use Rattle.shm_audit.specs.Images.{numbers}
use Rattle.shm_view.specs.{Kinds.free_kind, Sums.AreSums}
use Rattle.shm_view.proofs.census.free.Given as goal

abbrev pub invariant-loop-at : goal.invariant-loop-at
invariant-loop-at l =
    record {
      kinds : length l.free.sums.items ≡ 33;
      sums : AreSums (free_kind l.geometry (numbers l.words)) l.at l.free.sums.items;
    }
