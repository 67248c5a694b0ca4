use Rattle.std.proofs.Common.{◌<◌, ◌≢◌, length, arith, get_or-set_other, get_or-set_same, below_more, length-set}
use Rattle.shm_versions.proofs.Sizes.{same_sizes}
use Rattle.shm_versions.proofs.playing.holding_of.Goals as goal

pub loop-at-preserved : goal.loop-at-preserved
loop-at-preserved c =
    let long = c.loop-at.invariant.long in
    record {
      long = rw length-set long;
      each = λ ts has.
          below_more _ _
          (λ k h. let ne : k ≢ c.loop-at.at = omega arith in rw get_or-set_other (c.loop-at.invariant.each ts has k h))
          (let lt : c.loop-at.at < length c.loop-at.sizes = omega (arith, long) in rw get_or-set_same (c.size.ensures ts has));
    }

pub returns : goal.returns
returns c = λ ts has.
    let long = c.loop-at.invariant.long in
    record {
      sizes = same_sizes c.loop-at.sizes ts (omega (arith, long, has.long)) (λ k h. c.loop-at.invariant.each ts has k (omega (arith, has.long)));
      nodes = c.nodes.ensures;
    }
