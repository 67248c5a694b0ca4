use Rattle.std.proofs.Common.{◌≡◌, ◌-◌, sym, subst}
use Rattle.std.specs.Prelude.{Some, None}
use Rattle.shm_async.specs.LimitedMembers.{IsLimitedHere}
use Rattle.shm_async.proofs.limits.poll_one.Goals as goal

pub polled-member-requires-clause-member : goal.polled-member-requires-clause-member
polled-member-requires-clause-member g c =
    let (t, k, n, h) = c.requires.here in
    let was : c.args.slot.now ≡ Some c.in-Some.member = (let a = c.take.ensures.value in let b = c.in-Some.is in cc) in
    (t, k, n, subst (IsLimitedHere t c.args.pool.now k n c.args.left) was h)

pub returns-in-None : goal.returns-in-None
returns-in-None g c = λ t k n h.
    let gone : c.args.slot.now ≡ None = (let a = c.take.ensures.value in let b = c.in-None.is in cc) in
    absurd (subst (IsLimitedHere t c.args.pool.now k n c.args.left) gone h)

pub returns-in-Some : goal.returns-in-Some
returns-in-Some g c = λ t k n h.
    let was : c.args.slot.now ≡ Some c.in-Some.member = (let a = c.take.ensures.value in let b = c.in-Some.is in cc) in
    subst (IsLimitedHere t c.args.pool.now k n (c.args.left - 1)) (sym c.put_in.ensures) (c.polled-member.ensures.member t k n (subst (IsLimitedHere t c.args.pool.now k n c.args.left) was h))
