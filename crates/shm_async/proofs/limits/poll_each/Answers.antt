use Rattle.std.proofs.Common.{◌≡◌, ◌≢◌, ℕ, ◌<◌, ◌-◌, length, ◌∙◌, subst, arith, get_or-set_other, get_or-set_same, below_more}
use Rattle.std.proofs.lemmas.List.{length-set}
use Rattle.std.specs.Prelude.{Option, None, slice_index_or, slice_set}
use Rattle.shm_async.specs.{declared.limited.LimitedMember.LimitedMember, LimitedMembers.IsLimitedHere}
use Rattle.shm_async.proofs.Listed.{index_any}
use Rattle.shm_async.proofs.limits.poll_each.Goals as goal

pub poll_one-more-requires-clause-here : goal.poll_one-more-requires-clause-here
poll_one-more-requires-clause-here g c =
    let at = c.loop-at in
    let x = c.index-members-at in
    let (t, n, h) = c.requires.here in
    let few : at.at < length at.members = omega arith in
    let one = at.invariant.rest t n h at.at (omega arith) few in
    (t, at.at, n, subst (IsLimitedHere t c.args.pool.now at.at n c.args.left) (index_any at.members at.at None x.result few) one)

pub loop-at-preserved : goal.loop-at-preserved
loop-at-preserved g c =
    let at = c.loop-at in
    let i = at.invariant in
    let x = c.index-members-at in
    let v : Option (LimitedMember _) = c.poll_one-more.new.slot in
    let few : at.at < length at.members = omega arith in
    record {
      many = length-set at.members at.at v ∙ i.many;
      polled = λ t n h.
          below_more (λ (k : ℕ). IsLimitedHere t c.args.pool.now k n (c.args.left - 1) (slice_index_or (slice_set at.members at.at v) k None)) at.at
          (λ k l. let ne : k ≢ at.at = omega arith in rw get_or-set_other (i.polled t n h k l))
          (let lt : at.at < length at.members = few in
          rw get_or-set_same (c.poll_one-more.ensures t at.at n (subst (IsLimitedHere t c.args.pool.now at.at n c.args.left) (index_any at.members at.at None x.result few) (i.rest t n h at.at (omega arith) few))));
      rest = λ t n h k l m.
          let long : length (slice_set at.members at.at v) ≡ length at.members = length-set at.members at.at v in
          let ne : k ≢ at.at = omega arith in
          rw get_or-set_other (i.rest t n h k (omega arith) (omega arith));
    }

pub returns : goal.returns
returns g c = λ t n h k l. c.loop-at.invariant.polled t n h k (omega arith)
