use Rattle.std.proofs.Common.{refl}
use Rattle.shm_plain.specs.Pools.{memo_of}
use Rattle.shm_count.specs.Roots.{member}
use Rattle.shm_recover.specs.{Leave.{Control.leaving, leave_plan}, Proved.LeaveTask.LeaveMay}
use Rattle.t_calls.proofs.Plans.{may_begin}
use Rattle.t_calls.proofs.tables.leave.Goals as goal
use Rattle.shm_client.proofs.Opens.{open_other}

pub run_plan-requires-clause-may : goal.run_plan-requires-clause-may
run_plan-requires-clause-may c =
    let p = c.args.pool.now in
    let me = member p.start.geometry c.args.who in
    let h = c.requires.one in
    may_begin leaving me _ _ c.me.ensures.is c.new-leaving.ensures
    LeaveMay (memo_of p c.args.who) (refl, h.latch, h.dying, h.unsent, h.untaken)

pub returns-clause-others : goal.returns-clause-others
returns-clause-others c = λ d n h. open_other d c.args.who _ _ _ _ _ _ h n c.run_plan.ensures.ran
