use Rattle.std.proofs.Common.{◌≡◌, sym, subst}
use Rattle.std.specs.Prelude.{Some, None}
use Rattle.shm_async.specs.Members.{MemberHere}
use Rattle.shm_async.proofs.members.poll_one.Goals as goal

pub returns-in-None : goal.returns-in-None
returns-in-None g c = λ t p k h.
    let gone : c.args.slot.now ≡ None = (let a = c.take.ensures.value in let b = c.in-None.is in cc) in
    absurd (subst (MemberHere t p k) gone h)

pub returns-in-Some : goal.returns-in-Some
returns-in-Some g c = λ t p k h.
    let was : c.args.slot.now ≡ Some c.in-Some.member = (let a = c.take.ensures.value in let b = c.in-Some.is in cc) in
    subst (MemberHere t p k) (sym c.put_in.ensures) (c.polled-member.ensures t p k (subst (MemberHere t p k) was h))
