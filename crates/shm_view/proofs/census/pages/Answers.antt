use Rattle.std.proofs.Common.{◌∙◌, sym, arith}
use Rattle.shm_audit.specs.Images.{numbers}
use Rattle.shm_view.specs.Kinds.{page_kind}
use Rattle.shm_view.proofs.census.pages.Goals as goal

pub loop-p-init : goal.loop-p-init
loop-p-init c =
    record {
      kinds = c.in_ok-pages.ensures.kinds;
      sums = c.in_ok-pages.ensures.none (page_kind c.args.geometry (numbers c.args.words.now));
    }

pub loop-p-preserved : goal.loop-p-preserved
loop-p-preserved c =
    record {
      kinds = c.add.ensures.kinds ∙ c.loop-p.invariant.kinds;
      sums = c.add.ensures.sums (page_kind c.args.geometry (numbers c.args.words.now)) c.loop-p.p (omega arith) (sym c.page_kind.ensures) c.loop-p.invariant.sums;
    }
