use Rattle.std.proofs.Common.{◌+◌, ◌≤◌, refl, sym, subst}
use Rattle.shm_words.specs.Layout.{total_of}
use Rattle.shm_graph.specs.declared.ask.Me.{Me}
use Rattle.shm_plain.specs.Pools.{memo_of}
use Rattle.shm_count.specs.Roots.{member}
use Rattle.shm_ref.specs.{SetRef.{Control.{set_parts, setting}, set_plan}, Proved.RootTasks.SetMay}
use Rattle.t_calls.proofs.{Plans.{has_left, may_begin}, Answered.settles}
use Rattle.t_calls.proofs.latches.set_ref.Goals as goal
use Rattle.shm_client.proofs.Reaching.{reached_whole}

pub new-setting-requires-clause-block : goal.new-setting-requires-clause-block
new-setting-requires-clause-block c =
    subst (λ (x : Me). c.in_ok-block.block + 2 ≤ total_of x.geometry) (sym c.me.ensures.is)
    (reached_whole c.args.pool.now c.args.client.who c.requires.known.work c.me.ensures.run c.in_ok-block.block c.in_ok-reach.ensures)

pub run_told-requires-clause-may : goal.run_told-requires-clause-may
run_told-requires-clause-may c =
    let p = c.args.pool.now in
    let who = c.args.client.who in
    let me = member p.start.geometry who in
    may_begin (λ (x : Me). setting x c.in_ok-block.block c.in_ok-index.index c.in_ok-target.target) me _ _ c.me.ensures.is c.new-setting.ensures
    SetMay (memo_of p who) (refl, c.requires.known.client, c.requires.known.loose, c.in_ok-reach.ensures, λ some. c.in_ok-reach-2.ensures)

pub returns : goal.returns
returns c =
    let p = c.args.pool.now in
    let q = c.run_told.new.pool in
    let who = c.args.client.who in
    let me = member p.start.geometry who in
    let m = memo_of p who in
    let n = memo_of q who in
    let said = has_left (λ (x : Me). setting x c.in_ok-block.block c.in_ok-index.index c.in_ok-target.target) me _ _ c.me.ensures.is c.new-setting.ensures set_plan who p q _ _ c.in_ok-answer.answer c.in_ok-answer.ensures in
    settles c.args.client.known who p q _ _ _ c.requires.known _ c.in_ok-answer.answer said c.settled.ensures
    (λ a z. c.set_ref_keeps.ensures.left me c.in_ok-block.block c.in_ok-index.index c.in_ok-target.target m n n.call z.0 a z.2)
    (λ a z. c.set_ref_keeps.ensures.dying me c.in_ok-block.block c.in_ok-index.index c.in_ok-target.target m n n.call z.0 a z.2)
