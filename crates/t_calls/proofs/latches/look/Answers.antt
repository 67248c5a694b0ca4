use Rattle.std.proofs.Common.{refl, ap, ◌∙◌}
use Rattle.shm_graph.specs.declared.ask.Me.{Me}
use Rattle.shm_plain.specs.Pools.{memo_of}
use Rattle.plans.specs.Words.{word_control}
use Rattle.shm_count.specs.Roots.{member}
use Rattle.shm_ref.specs.{Look.{look_plan, looking}, Proved.LatchTasks.LookMay}
use Rattle.t_calls.proofs.{Plans.{has_left, may_begin}, Answered.sees}
use Rattle.t_calls.proofs.latches.look.Goals as goal
use Rattle.t_calls.specs.Known.{told}

pub run_told-requires-clause-may : goal.run_told-requires-clause-may
run_told-requires-clause-may c =
    let p = c.args.pool.now in
    let who = c.args.client.who in
    let me = member p.start.geometry who in
    may_begin (λ (x : Me). looking x c.in_ok-block.block c.in_ok-index.index) me _ _ c.me.ensures.is c.new-looking.ensures
    LookMay (memo_of p who) (refl, c.in_ok-reach.ensures)

pub returns : goal.returns
returns c =
    let p = c.args.pool.now in
    let q = c.run_told.new.pool in
    let who = c.args.client.who in
    let me = member p.start.geometry who in
    let m = memo_of p who in
    let n = memo_of q who in
    let said = has_left (λ (x : Me). looking x c.in_ok-block.block c.in_ok-index.index) me _ _ c.me.ensures.is c.new-looking.ensures look_plan who p q _ _ c.in_ok-answer.answer c.in_ok-answer.ensures in
    sees c.args.client.known who p q _ _ _ c.requires.known _ c.in_ok-answer.answer said (c.told.ensures ∙ ap (told c.in_ok-answer.answer) c.seeing.ensures)
    (λ a z. c.look_keeps.ensures.loose me c.in_ok-block.block c.in_ok-index.index m n n.call z.0 a z.2)
    (λ a z. c.look_keeps.ensures.reads me c.in_ok-block.block c.in_ok-index.index m n n.call z.0 a z.2)
    (λ a z. c.look_keeps.ensures.stays me c.in_ok-block.block c.in_ok-index.index m n n.call z.0 a z.2)
