use Rattle.std.proofs.Common.{refl, ap, ◌∙◌}
use Rattle.shm_graph.specs.declared.ask.Me.{Me}
use Rattle.shm_plain.specs.Pools.{memo_of}
use Rattle.shm_count.specs.{Roots.member, Proved.ShareTask.ShareMay, UpRoot.Control.{rooting, rooting_parts}}
use Rattle.shm_count.specs.UpRoot.{rooting_plan}
use Rattle.t_calls.proofs.{Plans.{has_left, may_begin}, Answered.keeps}
use Rattle.t_calls.proofs.latches.share.Goals as goal
use Rattle.t_calls.specs.Known.{told}

pub run_told-requires-clause-may : goal.run_told-requires-clause-may
run_told-requires-clause-may c =
    let p = c.args.pool.now in
    let who = c.args.client.who in
    let me = member p.start.geometry who in
    may_begin (λ (x : Me). rooting x c.in_ok-block.block) me _ _ c.me.ensures.is c.new-sharing.ensures
    ShareMay (memo_of p who) (refl, c.requires.known.client, c.in_ok-reach.ensures)

pub returns : goal.returns
returns c =
    let p = c.args.pool.now in
    let q = c.run_told.new.pool in
    let who = c.args.client.who in
    let me = member p.start.geometry who in
    let m = memo_of p who in
    let n = memo_of q who in
    let said = has_left (λ (x : Me). rooting x c.in_ok-block.block) me _ _ c.me.ensures.is c.new-sharing.ensures rooting_plan who p q _ _ c.in_ok-answer.answer c.in_ok-answer.ensures in
    keeps c.args.client.known who p q _ _ _ c.requires.known _ c.in_ok-answer.answer said (c.told.ensures ∙ ap (told c.in_ok-answer.answer) c.kept.ensures)
    (λ a z. c.share_keeps.ensures.left me c.in_ok-block.block m n n.call z.0 a z.2) (λ a z. c.share_keeps.ensures.dying me c.in_ok-block.block m n n.call z.0 a z.2)
