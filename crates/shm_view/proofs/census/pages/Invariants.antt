use Rattle.std.proofs.Common.{◌≡◌, length}
use Rattle.shm_audit.specs.Images.{numbers}
use Rattle.shm_view.specs.{Kinds.page_kind, Sums.AreSums}
use Rattle.shm_view.proofs.census.pages.Given as goal

abbrev pub invariant-loop-p : goal.invariant-loop-p
invariant-loop-p l =
    record {
      kinds : length l.pages.sums.items ≡ 33;
      sums : AreSums (page_kind l.fn.geometry (numbers l.words)) l.p l.pages.sums.items;
    }
