use Rattle.std.proofs.Common.{◌<◌, refl, ap, ◌∙◌, subst}
use Rattle.shm_words.specs.declared.geometry.Geometry.{Geometry}
use Rattle.shm_graph.specs.declared.ask.Me.{Me}
use Rattle.shm_plain.specs.Pools.{memo_of}
use Rattle.shm_count.specs.Roots.{member}
use Rattle.shm_queue.specs.{Proved.QueueTasks.TakeMay, Take.{Control.{take_parts, taking}, take_plan}}
use Rattle.t_calls.proofs.{Plans.{has_left, may_begin}, Answered.settles}
use Rattle.t_calls.proofs.queues.take.Goals as goal

pub run_told-requires-clause-may : goal.run_told-requires-clause-may
run_told-requires-clause-may c =
    let p = c.args.pool.now in
    let who = c.args.client.who in
    let me = member p.start.geometry who in
    let low : c.in_ok-from.from < p.start.geometry.clients = subst (λ n. c.in_ok-from.from < n) (c.clients.ensures ∙ ap (λ (z : Geometry). z.clients) c.geometry.ensures.is) c.in_ok-from.ensures in
    let quiet = c.requires.known.quiet c.in_ok-check.ensures in
    may_begin (λ (x : Me). taking x c.in_ok-from.from) me _ _ c.me.ensures.is c.new-taking.ensures
    TakeMay (memo_of p who) (refl, (low, c.in_ok-apart.ensures, quiet.untaken c.in_ok-from.from))

pub returns : goal.returns
returns c =
    let p = c.args.pool.now in
    let q = c.run_told.new.pool in
    let who = c.args.client.who in
    let me = member p.start.geometry who in
    let m = memo_of p who in
    let n = memo_of q who in
    let said = has_left (λ (x : Me). taking x c.in_ok-from.from) me _ _ c.me.ensures.is c.new-taking.ensures take_plan who p q _ _ c.in_ok-answer.answer c.in_ok-answer.ensures in
    settles c.args.client.known who p q _ _ _ c.requires.known _ c.in_ok-answer.answer said c.settled.ensures
    (λ a z. c.take_keeps.ensures.left me c.in_ok-from.from m n n.call z.0 a z.2) (λ a z. c.take_keeps.ensures.dying me c.in_ok-from.from m n n.call z.0 a z.2)
