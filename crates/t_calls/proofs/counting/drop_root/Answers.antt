use Rattle.std.proofs.Common.{refl}
use Rattle.shm_graph.specs.declared.ask.Me.{Me}
use Rattle.shm_plain.specs.Pools.{memo_of}
use Rattle.shm_count.specs.Roots.{member}
use Rattle.shm_ref.specs.{DropRoot.{Control.{drop_parts, dropping}, drop_plan}, Proved.RootTasks.DropMay}
use Rattle.t_calls.proofs.{Plans.{has_left, may_begin}, Answered.settles}
use Rattle.t_calls.proofs.counting.drop_root.Goals as goal

pub run_told-requires-clause-may : goal.run_told-requires-clause-may
run_told-requires-clause-may c =
    let p = c.args.pool.now in
    let who = c.args.client.who in
    let me = member p.start.geometry who in
    may_begin (λ (x : Me). dropping x c.in_ok-root.root) me _ _ c.me.ensures.is c.new-dropping.ensures
    DropMay (memo_of p who) (refl, c.in_ok-root.ensures)

pub returns : goal.returns
returns c =
    let p = c.args.pool.now in
    let q = c.run_told.new.pool in
    let who = c.args.client.who in
    let me = member p.start.geometry who in
    let m = memo_of p who in
    let n = memo_of q who in
    let said = has_left (λ (x : Me). dropping x c.in_ok-root.root) me _ _ c.me.ensures.is c.new-dropping.ensures drop_plan who p q _ _ c.in_ok-answer.answer c.in_ok-answer.ensures in
    settles c.args.client.known who p q _ _ _ c.requires.known _ c.in_ok-answer.answer said c.settled.ensures
    (λ a z. c.drop_root_keeps.ensures.left me c.in_ok-root.root m n n.call z.0 a z.2) (λ a z. c.drop_root_keeps.ensures.dying me c.in_ok-root.root m n n.call z.0 a z.2)
