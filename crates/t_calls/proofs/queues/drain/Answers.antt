use Rattle.std.proofs.Common.{refl}
use Rattle.shm_plain.specs.Pools.{memo_of}
use Rattle.shm_count.specs.Roots.{member}
use Rattle.shm_queue.specs.{Drain.{Control.{drain_parts, draining}, drain_plan}, Proved.QueueTasks.DrainMay}
use Rattle.t_calls.proofs.{Plans.{has_left, may_begin}, Answered.settles}
use Rattle.t_calls.proofs.queues.drain.Goals as goal

pub run_told-requires-clause-may : goal.run_told-requires-clause-may
run_told-requires-clause-may c =
    let p = c.args.pool.now in
    let who = c.args.client.who in
    let me = member p.start.geometry who in
    let quiet = c.requires.known.quiet c.in_ok-check.ensures in
    may_begin draining me _ _ c.me.ensures.is c.new-draining.ensures
    DrainMay (memo_of p who) (refl, quiet.untaken)

pub returns : goal.returns
returns c =
    let p = c.args.pool.now in
    let q = c.run_told.new.pool in
    let who = c.args.client.who in
    let me = member p.start.geometry who in
    let m = memo_of p who in
    let n = memo_of q who in
    let said = has_left draining me _ _ c.me.ensures.is c.new-draining.ensures drain_plan who p q _ _ c.in_ok-answer.answer c.in_ok-answer.ensures in
    settles c.args.client.known who p q _ _ _ c.requires.known _ c.in_ok-answer.answer said c.settled.ensures
    (λ a z. c.drain_keeps.ensures.left me m n n.call z.0 a z.2) (λ a z. c.drain_keeps.ensures.dying me m n n.call z.0 a z.2)
