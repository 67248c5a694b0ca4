use Rattle.std.proofs.Common.{◌≢◌, rules}
use Rattle.shm_graph.specs.declared.ask.Me.{Me}
use Rattle.shm_plain.specs.Pools.{memo_of}
use Rattle.shm_count.specs.{Roots.member, Step.Machines.down_control}
use Rattle.shm_ref.specs.RootSteps.{LoweringMay, lowering, lowering_plan}
use Rattle.t_calls.proofs.{Plans.{has_left, may_begin}, Answered.lowers}
use Rattle.t_calls.proofs.counting.lower.Goals as goal

pub run_told-requires-clause-may : goal.run_told-requires-clause-may
run_told-requires-clause-may c =
    let p = c.args.pool.now in
    let who = c.args.client.who in
    let me = member p.start.geometry who in
    let some : c.in_ok-block.block ≢ 0 = search rules in
    may_begin (λ (x : Me). lowering x c.in_ok-root.root c.in_ok-block.block) me _ _ c.me.ensures.is c.new-lowering.ensures
    LoweringMay (memo_of p who) (c.in_ok-root.ensures, c.in_ok-rooted.ensures, some)

pub returns : goal.returns
returns c =
    let p = c.args.pool.now in
    let q = c.run_told.new.pool in
    let who = c.args.client.who in
    let me = member p.start.geometry who in
    let m = memo_of p who in
    let n = memo_of q who in
    let said = has_left (λ (x : Me). lowering x c.in_ok-root.root c.in_ok-block.block) me _ _ c.me.ensures.is c.new-lowering.ensures lowering_plan who p q _ _ c.in_ok-answer.answer c.in_ok-answer.ensures in
    lowers c.args.client.known who p q _ _ _ c.requires.known _ c.in_ok-block.block c.in_ok-answer.answer said c.dying.ensures
    (λ a z. c.lower_root_keeps.ensures.left me c.in_ok-root.root c.in_ok-block.block m n n.call z.0 a z.2) (λ a z. c.lower_root_keeps.ensures.dying me c.in_ok-root.root c.in_ok-block.block m n n.call z.0 a z.2)
