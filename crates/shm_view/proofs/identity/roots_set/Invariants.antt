use Rattle.std.proofs.Common.{◌≡◌, ◌≤◌, get_or}
use Rattle.shm_words.specs.{declared.place.Place.TheVariants.Root, Layout.address}
use Rattle.shm_graph.specs.References.{sum_below}
use Rattle.shm_audit.specs.Images.{numbers}
use Rattle.shm_view.specs.Figures.{one_where_set}
use Rattle.shm_view.proofs.identity.roots_set.Given as goal

abbrev pub invariant-loop-k : goal.invariant-loop-k
invariant-loop-k l =
    record {
      most : l.set ≤ l.k;
      sum : l.set ≡ sum_below l.k (λ k. one_where_set (get_or (numbers l.words) (address l.geometry (Root l.c k)) 0));
    }
