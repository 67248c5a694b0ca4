use Rattle.std.proofs.Common.{refl, ap, ◌∙◌, inl}
use Rattle.shm_graph.specs.declared.ask.Me.{Me}
use Rattle.shm_plain.specs.Pools.{memo_of}
use Rattle.shm_count.specs.Roots.{member}
use Rattle.shm_ref.specs.{SetHome.{home_parts, home_plan, homing}, Proved.RootTasks.HomeMay}
use Rattle.t_calls.proofs.{Plans.{has_left, may_begin}, Answered.unsettles}
use Rattle.t_calls.proofs.latches.set_home.Goals as goal
use Rattle.t_calls.specs.Known.{told}
use Rattle.shm_client.proofs.Reaching.{home_unread}

pub run_told-requires-clause-may : goal.run_told-requires-clause-may
run_told-requires-clause-may c =
    let p = c.args.pool.now in
    let who = c.args.client.who in
    let me = member p.start.geometry who in
    may_begin (λ (x : Me). homing x c.in_ok-block.block) me _ _ c.me.ensures.is c.new-homing.ensures
    HomeMay (memo_of p who) (refl, c.requires.known.client, c.in_ok-reach.ensures, λ empty. inl (home_unread (memo_of p who).part who c.requires.known.loose))

pub returns : goal.returns
returns c =
    let p = c.args.pool.now in
    let q = c.run_told.new.pool in
    let who = c.args.client.who in
    let me = member p.start.geometry who in
    let m = memo_of p who in
    let n = memo_of q who in
    let said = has_left (λ (x : Me). homing x c.in_ok-block.block) me _ _ c.me.ensures.is c.new-homing.ensures home_plan who p q _ _ c.in_ok-answer.answer c.in_ok-answer.ensures in
    unsettles c.args.client.known who p q _ _ _ c.requires.known _ c.in_ok-answer.answer said (c.told.ensures ∙ ap (told c.in_ok-answer.answer) c.unsettled.ensures)
    (λ a z. c.set_home_keeps.ensures.loose me c.in_ok-block.block m n n.call z.0 a z.2) (λ a z. c.set_home_keeps.ensures.latch me c.in_ok-block.block m n n.call z.0 a z.2)
