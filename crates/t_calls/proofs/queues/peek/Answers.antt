use Rattle.std.proofs.Common.{◌<◌, refl, ap, ◌∙◌, subst}
use Rattle.shm_words.specs.declared.geometry.Geometry.{Geometry}
use Rattle.shm_graph.specs.declared.ask.Me.{Me}
use Rattle.shm_plain.specs.Pools.{memo_of}
use Rattle.shm_count.specs.Roots.{member}
use Rattle.shm_queue.specs.{Proved.QueueTasks.PeekMay, Peek.{Control.{peek_parts, peeking}, peek_plan}}
use Rattle.t_calls.proofs.{Plans.{has_left, may_begin}, Answered.peeks}
use Rattle.t_calls.proofs.queues.peek.Goals as goal
use Rattle.t_calls.specs.Known.{told}

pub run_told-requires-clause-may : goal.run_told-requires-clause-may
run_told-requires-clause-may c =
    let p = c.args.pool.now in
    let who = c.args.client.who in
    let me = member p.start.geometry who in
    let low : c.in_ok-from.from < p.start.geometry.clients = subst (λ n. c.in_ok-from.from < n) (c.clients.ensures ∙ ap (λ (z : Geometry). z.clients) c.geometry.ensures.is) c.in_ok-from.ensures in
    let quiet = c.requires.known.quiet c.in_ok-check.ensures in
    may_begin (λ (x : Me). peeking x c.in_ok-from.from) me _ _ c.me.ensures.is c.new-peeking.ensures
    PeekMay (memo_of p who) (refl, c.requires.known.client, (low, c.in_ok-apart.ensures, quiet.untaken c.in_ok-from.from))

pub returns : goal.returns
returns c =
    let p = c.args.pool.now in
    let q = c.run_told.new.pool in
    let who = c.args.client.who in
    let me = member p.start.geometry who in
    let m = memo_of p who in
    let n = memo_of q who in
    let said = has_left (λ (x : Me). peeking x c.in_ok-from.from) me _ _ c.me.ensures.is c.new-peeking.ensures peek_plan who p q _ _ c.in_ok-answer.answer c.in_ok-answer.ensures in
    peeks c.args.client.known who p q _ _ _ c.requires.known _ c.in_ok-answer.answer said (c.told.ensures ∙ ap (told c.in_ok-answer.answer) c.kept.ensures)
    (λ a z. c.peek_keeps.ensures.left me c.in_ok-from.from m n n.call z.0 a z.2) (λ a z. c.peek_keeps.ensures.stays me c.in_ok-from.from m n n.call z.0 a z.2)
