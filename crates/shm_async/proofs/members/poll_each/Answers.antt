use Rattle.std.proofs.{Common.{◌<◌, length, ◌∙◌, subst, arith}, lemmas.List.length-set}
use Rattle.shm_async.specs.Members.{MemberHere}
use Rattle.shm_async.proofs.Starting.{members_set}
use Rattle.shm_async.proofs.members.poll_each.Goals as goal

pub loop-at-preserved : goal.loop-at-preserved
loop-at-preserved g c =
    let at = c.loop-at in
    let i = at.invariant in
    let x = c.index-members-at in
    let few : at.at < length at.members = omega arith in
    record {
      many = length-set at.members at.at c.poll_one-left.new.slot ∙ i.many;
      here = λ t p h. members_set t p at.members at.at x.result c.poll_one-left.new.slot (i.here t p h) few x.is (λ k z. c.poll_one-left.ensures t p k (subst (MemberHere t p k) x.is z));
    }
