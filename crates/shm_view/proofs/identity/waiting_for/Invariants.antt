use Rattle.std.proofs.Common.{◌≡◌, ◌*◌, ◌≤◌}
use Rattle.shm_graph.specs.References.{sum_below}
use Rattle.shm_audit.specs.Images.{numbers}
use Rattle.shm_view.specs.Figures.{waiting_in}
use Rattle.shm_view.proofs.identity.waiting_for.Given as goal

abbrev pub invariant-loop-s : goal.invariant-loop-s
invariant-loop-s l =
    record {
      most : l.waiting ≤ 8 * l.s;
      sum : l.waiting ≡ sum_below l.s (λ s. waiting_in l.geometry (numbers l.words) s l.r);
    }
