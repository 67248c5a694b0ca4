use Rattle.std.proofs.Common.{◌<◌, ◌-◌, sym, subst, arith}
use Rattle.shm_async.specs.{LimitedMembers.{IsLimitedMember, polls_left}, declared.limited.LimitedMember.LimitedMember}
use Rattle.shm_async.proofs.limited.LimitedMember.polled.Goals as goal

pub worked-requires-clause-due : goal.worked-requires-clause-due
worked-requires-clause-due g c = let (t, k, n, h) = c.requires.member in (t, k, n, subst (IsLimitedMember t c.args.pool.now k n c.args.left) c.in-Works.is h)

pub mended-requires : goal.mended-requires
mended-requires g c = let (t, k, n, h) = c.requires.member in (t, c.args.pool.now, k, n, subst (IsLimitedMember t c.args.pool.now k n c.args.left) c.in-Recovers.is h)

pub returns-in-Finished-clause-member : goal.returns-in-Finished-clause-member
returns-in-Finished-clause-member g c = λ t k n h. subst (IsLimitedMember t c.args.pool.now k n c.args.left) c.in-Finished.is h

pub returns-in-Works-clause-member : goal.returns-in-Works-clause-member
returns-in-Works-clause-member g c = λ t k n h. c.worked.ensures.member t k n (subst (IsLimitedMember t c.args.pool.now k n c.args.left) c.in-Works.is h)

pub returns-in-Recovers-clause-member : goal.returns-in-Recovers-clause-member
returns-in-Recovers-clause-member g c = λ t k n h. c.mended.ensures.member t c.args.pool.now k n (c.args.left - 1) (subst (IsLimitedMember t c.args.pool.now k n c.args.left) c.in-Recovers.is h)

none_less : 0 < 0 → ⊥
none_less h = omega arith

pub returns-in-Finished-clause-fewer : goal.returns-in-Finished-clause-fewer
returns-in-Finished-clause-fewer g c = λ some. absurd (none_less (subst (λ (m : LimitedMember _). 0 < polls_left c.args.left m) c.in-Finished.is some))

pub returns-in-Works-clause-fewer : goal.returns-in-Works-clause-fewer
returns-in-Works-clause-fewer g c = λ some. subst (λ (m : LimitedMember _). polls_left (c.args.left - 1) c.worked.result < polls_left c.args.left m) (sym c.in-Works.is) c.worked.ensures.fewer

pub returns-in-Recovers-clause-fewer : goal.returns-in-Recovers-clause-fewer
returns-in-Recovers-clause-fewer g c = λ some. subst (λ (m : LimitedMember _). polls_left (c.args.left - 1) c.mended.result < polls_left c.args.left m) (sym c.in-Recovers.is) (c.mended.ensures.fewer (c.args.left - 1))
