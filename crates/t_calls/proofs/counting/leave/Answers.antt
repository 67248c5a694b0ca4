use Rattle.std.proofs.Common.{refl}
use Rattle.shm_plain.specs.Pools.{memo_of}
use Rattle.shm_count.specs.Roots.{member}
use Rattle.shm_recover.specs.{Leave.{Control.leaving, leave_plan}, Proved.LeaveTask.LeaveMay}
use Rattle.t_calls.proofs.{Plans.may_begin, Knowing.after_ran}
use Rattle.t_calls.proofs.counting.leave.Goals as goal

pub run_told-requires-clause-may : goal.run_told-requires-clause-may
run_told-requires-clause-may c =
    let p = c.args.pool.now in
    let who = c.args.client.who in
    let me = member p.start.geometry who in
    let quiet = c.requires.known.quiet c.in_ok-check-2.ensures in
    may_begin leaving me _ _ c.me.ensures.is c.new-leaving.ensures
    LeaveMay (memo_of p who) (refl, c.requires.known.free c.in_ok-check.ensures, quiet.dying, quiet.unsent, quiet.untaken)

pub returns : goal.returns
returns c = after_ran c.args.client.who c.args.pool.now c.run_told.new.pool _ _ _ _ _ c.in_ok-run_told.ensures.ran tt
