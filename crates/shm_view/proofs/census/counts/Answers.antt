use Rattle.std.proofs.Common.{◌∙◌, sym, arith}
use Rattle.shm_audit.specs.Images.{numbers}
use Rattle.shm_view.specs.Kinds.{count_kind}
use Rattle.shm_view.proofs.census.counts.Goals as goal

pub loop-at-init : goal.loop-at-init
loop-at-init c =
    record {
      kinds = c.in_ok-counts.ensures.kinds;
      sums = c.in_ok-counts.ensures.none (count_kind c.args.geometry (numbers c.args.words.now));
    }

pub loop-at-preserved : goal.loop-at-preserved
loop-at-preserved c =
    record {
      kinds = c.add.ensures.kinds ∙ c.loop-at.invariant.kinds;
      sums = c.add.ensures.sums (count_kind c.args.geometry (numbers c.args.words.now)) c.loop-at.at (omega arith) (sym c.count_kind.ensures) c.loop-at.invariant.sums;
    }
