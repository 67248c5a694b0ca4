use Rattle.std.proofs.Common.{refl}
use Rattle.shm_plain.specs.Pools.{memo_of}
use Rattle.shm_count.specs.Roots.{member}
use Rattle.shm_queue.specs.{Drain.{Control.{drain_parts, draining}, drain_plan}, Proved.QueueTasks.DrainMay}
use Rattle.t_calls.proofs.{Plans.{has_left, may_begin}, Answered.drains}
use Rattle.t_calls.proofs.tables.drain.Goals as goal
use Rattle.shm_client.proofs.Opens.{open_other}

pub run_plan-requires-clause-may : goal.run_plan-requires-clause-may
run_plan-requires-clause-may c =
    let p = c.args.pool.now in
    let me = member p.start.geometry c.args.who in
    may_begin draining me _ _ c.me.ensures.is c.new-draining.ensures
    DrainMay (memo_of p c.args.who) (refl, c.requires.one.untaken)

pub returns-clause-one : goal.returns-clause-one
returns-clause-one c =
    let p = c.args.pool.now in
    let q = c.run_plan.new.pool in
    let who = c.args.who in
    let me = member p.start.geometry who in
    let m = memo_of p who in
    let n = memo_of q who in
    let said = has_left draining me _ _ c.me.ensures.is c.new-draining.ensures drain_plan who p q _ _ c.run_plan.result c.run_plan.ensures in
    drains who p q _ _ _ c.run_plan.result c.requires.one said (λ a z. c.drain_keeps.ensures.left me m n n.call z.0 a z.2) (λ a z. c.drain_keeps.ensures.dying me m n n.call z.0 a z.2)

pub returns-clause-others : goal.returns-clause-others
returns-clause-others c = λ d n h. open_other d c.args.who _ _ _ _ _ _ h n c.run_plan.ensures.ran
