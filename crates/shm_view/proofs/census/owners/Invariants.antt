use Rattle.std.proofs.Common.{◌≡◌, length}
use Rattle.shm_audit.specs.Images.{numbers}
use Rattle.shm_view.specs.{Kinds.owner_kind, Sums.AreSums}
use Rattle.shm_view.proofs.census.owners.Given as goal

abbrev pub invariant-loop-s : goal.invariant-loop-s
invariant-loop-s l =
    record {
      kinds : length l.owners.sums.items ≡ 17;
      sums : AreSums (owner_kind l.geometry (numbers l.words)) l.s l.owners.sums.items;
    }
