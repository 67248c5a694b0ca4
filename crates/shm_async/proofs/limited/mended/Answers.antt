use Rattle.std.proofs.Common.{sym, subst, arith}
use Rattle.std.specs.Prelude.{Some}
use Rattle.shm_team.specs.declared.left.Left.{Left}
use Rattle.shm_async.specs.LimitedMembers.{IsLimitedDone}
use Rattle.shm_async.proofs.Mending.{mending_done, mending_fewer, mending_on}
use Rattle.shm_async.proofs.limited.mended.Goals as goal

pub returns-in-None-clause-member : goal.returns-in-None-clause-member
returns-in-None-clause-member g c = λ t p k n left h. mending_on t p k n c.args.cut c.advance.new.self h c.in-None.ensures

pub returns-in-None-clause-fewer : goal.returns-in-None-clause-fewer
returns-in-None-clause-fewer g c = λ left. let (t, p, k, n, h) = c.requires in let less = mending_fewer t p k n c.args.cut c.advance.new.self h c.in-None.ensures in omega arith

pub returns-clause-member : goal.returns-clause-member
returns-clause-member g c = λ t p k n left h.
    subst (λ (x : Left). IsLimitedDone t p k n (record { log = Some c.args.cut.log; left = x })) (sym c.left_by.ensures.left)
    (mending_done t p k n c.args.cut c.advance.new.self h c.in-Some.over c.in-Some.ensures c.left_by.ensures.stood)
