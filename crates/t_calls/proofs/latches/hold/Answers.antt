use Rattle.std.proofs.Common.{◌<◌, refl, ap, ◌∙◌, subst}
use Rattle.shm_words.specs.declared.geometry.Geometry.{Geometry}
use Rattle.shm_graph.specs.declared.ask.Me.{Me}
use Rattle.shm_plain.specs.Pools.{memo_of}
use Rattle.plans.specs.Words.{word_control}
use Rattle.shm_count.specs.Roots.{member}
use Rattle.shm_ref.specs.{Hold.{Control.holding, hold_plan}, Proved.LatchTasks.HoldMay}
use Rattle.t_calls.proofs.{Plans.{has_left, may_begin}, Answered.holds}
use Rattle.t_calls.proofs.latches.hold.Goals as goal

pub run_told-requires-clause-may : goal.run_told-requires-clause-may
run_told-requires-clause-may c =
    let p = c.args.pool.now in
    let who = c.args.client.who in
    let me = member p.start.geometry who in
    let low : c.in_ok-author.author < p.start.geometry.clients = subst (λ n. c.in_ok-author.author < n) (c.clients.ensures ∙ ap (λ (z : Geometry). z.clients) c.geometry.ensures.is) c.in_ok-author.ensures in
    let free = c.requires.known.free c.in_ok-check.ensures in
    may_begin (λ (x : Me). holding x c.in_ok-author.author) me _ _ c.me.ensures.is c.new-holding.ensures
    HoldMay (memo_of p who) (refl, low, free)

pub returns : goal.returns
returns c =
    let p = c.args.pool.now in
    let q = c.run_told.new.pool in
    let who = c.args.client.who in
    let me = member p.start.geometry who in
    let m = memo_of p who in
    let n = memo_of q who in
    let free = c.requires.known.free c.in_ok-check.ensures in
    let said = has_left (λ (x : Me). holding x c.in_ok-author.author) me _ _ c.me.ensures.is c.new-holding.ensures hold_plan who p q _ _ c.in_ok-answer.answer c.in_ok-answer.ensures in
    holds c.args.client.known who p q _ _ _ c.requires.known _ c.in_ok-author.author c.in_ok-answer.answer said c.held.ensures free
    (λ a z. c.hold_keeps.ensures.loose me c.in_ok-author.author m n n.call z.0 a z.2)
    (λ a z. c.hold_keeps.ensures.waiting me c.in_ok-author.author m n n.call z.0 a z.2)
    (λ a z. c.hold_keeps.ensures.held me c.in_ok-author.author m n n.call z.0 a z.2)
    (λ a z. c.hold_keeps.ensures.refused me c.in_ok-author.author m n n.call z.0 a z.2 free)
