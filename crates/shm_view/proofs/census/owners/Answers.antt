use Rattle.std.proofs.Common.{◌∙◌, sym, arith}
use Rattle.shm_audit.specs.Images.{numbers}
use Rattle.shm_view.specs.Kinds.{owner_kind}
use Rattle.shm_view.proofs.census.owners.Goals as goal

pub loop-s-init : goal.loop-s-init
loop-s-init c =
    record {
      kinds = c.in_ok-owners.ensures.kinds;
      sums = c.in_ok-owners.ensures.none (owner_kind c.args.geometry (numbers c.args.words.now));
    }

pub loop-s-preserved : goal.loop-s-preserved
loop-s-preserved c =
    record {
      kinds = c.add.ensures.kinds ∙ c.loop-s.invariant.kinds;
      sums = c.add.ensures.sums (owner_kind c.args.geometry (numbers c.args.words.now)) c.loop-s.s (omega arith) (sym c.owner_kind.ensures) c.loop-s.invariant.sums;
    }
