use Rattle.std.proofs.{Common.{◌<◌, refl, sym, ap, ◌∙◌, subst}, lemmas.Bool.true≢false}
use Rattle.shm_words.specs.declared.geometry.Geometry.{Geometry}
use Rattle.shm_graph.specs.declared.ask.Me.{Me}
use Rattle.shm_plain.specs.Pools.{memo_of}
use Rattle.shm_count.specs.Roots.{member}
use Rattle.shm_queue.specs.{Proved.QueueTasks.SendMay, Send.{Control.{send_parts, sending}, send_plan}}
use Rattle.t_calls.proofs.{Plans.{has_left, may_begin}, Answered.keeps}
use Rattle.t_calls.proofs.queues.send.Goals as goal
use Rattle.t_calls.specs.Known.{told}

pub run_told-requires-clause-may : goal.run_told-requires-clause-may
run_told-requires-clause-may c =
    let p = c.args.pool.now in
    let who = c.args.client.who in
    let me = member p.start.geometry who in
    let low : c.in_ok-to.to < p.start.geometry.clients = subst (λ n. c.in_ok-to.to < n) (c.clients.ensures ∙ ap (λ (z : Geometry). z.clients) c.geometry.ensures.is) c.in_ok-to.ensures in
    let quiet = c.requires.known.quiet c.in_ok-check.ensures in
    may_begin (λ (x : Me). sending x c.in_ok-to.to c.in_ok-block.block) me _ _ c.me.ensures.is c.new-sending.ensures
    SendMay (memo_of p who) (refl, c.requires.known.client, low, c.in_ok-apart.ensures, c.in_ok-reach.ensures, λ tables. absurd (true≢false (sym c.requires.known.loose ∙ tables)), quiet.unsent c.in_ok-to.to)

pub returns : goal.returns
returns c =
    let p = c.args.pool.now in
    let q = c.run_told.new.pool in
    let who = c.args.client.who in
    let me = member p.start.geometry who in
    let m = memo_of p who in
    let n = memo_of q who in
    let said = has_left (λ (x : Me). sending x c.in_ok-to.to c.in_ok-block.block) me _ _ c.me.ensures.is c.new-sending.ensures send_plan who p q _ _ c.in_ok-answer.answer c.in_ok-answer.ensures in
    keeps c.args.client.known who p q _ _ _ c.requires.known _ c.in_ok-answer.answer said (c.told.ensures ∙ ap (told c.in_ok-answer.answer) c.kept.ensures)
    (λ a z. c.send_keeps.ensures.left me c.in_ok-to.to c.in_ok-block.block m n n.call z.0 a z.2) (λ a z. c.send_keeps.ensures.dying me c.in_ok-to.to c.in_ok-block.block m n n.call z.0 a z.2)
