use Rattle.std.proofs.Common.{◌∙◌, sym, arith}
use Rattle.shm_audit.specs.Images.{numbers}
use Rattle.shm_view.specs.Kinds.{live_kind}
use Rattle.shm_view.proofs.census.live.Goals as goal

pub loop-at-init : goal.loop-at-init
loop-at-init c =
    record {
      kinds = c.in_ok-live.ensures.kinds;
      sums = c.in_ok-live.ensures.none (live_kind c.args.geometry (numbers c.args.words.now));
    }

pub loop-at-preserved : goal.loop-at-preserved
loop-at-preserved c =
    record {
      kinds = c.add.ensures.kinds ∙ c.loop-at.invariant.kinds;
      sums = c.add.ensures.sums (live_kind c.args.geometry (numbers c.args.words.now)) c.loop-at.at (omega arith) (sym c.live_kind.ensures) c.loop-at.invariant.sums;
    }
