use Rattle.std.proofs.Common.{refl, inl, inr}
use Rattle.shm_graph.specs.declared.memo.{Fate.TheVariants.Ended, Kind.TheVariants.Client}
use Rattle.plans.specs.CallsControl.{calls_of}
use Rattle.shm_recover.specs.{Leave.Control.{leaving, leave_steered}, Machines.leave}
use Rattle.shm_pool.specs.{Calls.shown, Tokens.me_of}
use Rattle.shm_team.proofs.Visiting.{ends_gone, leave_stayed, run_more, same_part}
use Rattle.shm_team.proofs.closing.leave.Goals as goal

pub returns-in-Ok-clause-ran : goal.returns-in-Ok-clause-ran
returns-in-Ok-clause-ran g c = λ e lines h.
    let before = c.args.client.account in
    let after = c.in-Ok.token.account in
    let x = c.in-Ok.ensures.left in
    run_more Client lines (shown leave (calls_of leave_steered (leaving (me_of c.args.client.of before)))) e before after _ _ Ended (inr (inl refl)) h x.answered.call (x.answered.told refl)
    (ends_gone after.memo.status x.gone)
    (same_part before.memo after.memo x.answered.gave.leaves.part)

pub returns-in-Ok-clause-stayed : goal.returns-in-Ok-clause-stayed
returns-in-Ok-clause-stayed g c =
    let e = c.args.client.account in
    let x = c.in-Ok.ensures.left in
    leave_stayed c.args.client.of e c.in-Ok.token _ _ c.requires.may x (same_part e.memo c.in-Ok.token.account.memo x.answered.gave.leaves.part)
