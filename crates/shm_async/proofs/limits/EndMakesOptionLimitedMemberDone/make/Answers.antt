use Rattle.std.proofs.Common.{subst}
use Rattle.shm_async.specs.LimitedMembers.{IsLimitedHere}
use Rattle.shm_async.proofs.limits.EndMakesOptionLimitedMemberDone.make.Goals as goal

pub unreachable-requires : goal.unreachable-requires
unreachable-requires g c =
    let m = c.args.self.now in
    let (k, h) = c.requires in
    subst (IsLimitedHere m.trace.now m.pool.now k m.turns m.left) c.in-None.is h.1

pub done-requires-clause-turns : goal.done-requires-clause-turns
done-requires-clause-turns g c = let (k, h) = c.requires in h.0

pub done-requires-clause-member : goal.done-requires-clause-member
done-requires-clause-member g c =
    let m = c.args.self.now in
    let (k, h) = c.requires in
    (m.trace.now, k, m.turns, subst (IsLimitedHere m.trace.now m.pool.now k m.turns m.left) c.in-Some.is h.1)

pub returns : goal.returns
returns g c = λ k h.
    let m = c.args.self.now in
    c.done.ensures m.trace.now k m.turns (subst (IsLimitedHere m.trace.now m.pool.now k m.turns m.left) c.in-Some.is h.1)
