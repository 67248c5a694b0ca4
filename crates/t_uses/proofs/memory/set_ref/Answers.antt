use Rattle.std.proofs.Common.{◌≡◌, ◌+◌, ◌≤◌, true, refl, sym, ap, ◌∙◌, subst, rules, Ok, Some}
use Rattle.shm_words.specs.Layout.{total_of}
use Rattle.shm_graph.specs.{declared.ask.Me.Me, Reach.is_reached}
use Rattle.shm_plain.specs.Pools.{memo_of}
use Rattle.shm_plain.proofs.Calling.{still_kind}
use Rattle.shm_count.specs.Roots.{member, root_word}
use Rattle.shm_count.proofs.RootSpots.{roots_reached}
use Rattle.shm_ref.specs.{Proved.RootTasks.SetMay, SetRef.{Control.{set_parts, setting}, set_plan}}
use Rattle.shm_client.proofs.{Reaching.{reached_small, reached_whole}, Running.{plan_done, plan_may}}
use Rattle.t_uses.proofs.{Done.renamed, Frees.{holds_still, queues_rests}, Names.root_named}
use Rattle.t_uses.proofs.memory.set_ref.Goals.{After-me}
use Rattle.t_uses.proofs.memory.set_ref.Goals as goal

-- both blocks are in reach, as roots name them
parent_reached : (c : After-me) → is_reached c.args.who (memo_of c.args.pool.now c.args.who) c.args.pair.parent.block ≡ true
parent_reached c =
    let x = c.requires.rooted in
    roots_reached c.args.who (memo_of c.args.pool.now c.args.who) c.requires.holds.work.idle.op c.args.pair.parent.root c.args.pair.parent.block x.low.0 x.some.0 x.parent

child_reached : (c : After-me) → is_reached c.args.who (memo_of c.args.pool.now c.args.who) c.args.pair.child.block ≡ true
child_reached c =
    let x = c.requires.rooted in
    roots_reached c.args.who (memo_of c.args.pool.now c.args.who) c.requires.holds.work.idle.op c.args.pair.child.root c.args.pair.child.block x.low.1 x.some.1 x.child

pub new-setting-requires-clause-block : goal.new-setting-requires-clause-block
new-setting-requires-clause-block c =
    subst (λ (x : Me). c.args.pair.parent.block + 2 ≤ total_of x.geometry) (sym c.me.ensures.is)
    (reached_whole c.args.pool.now c.args.who c.requires.holds.work c.me.ensures.run c.args.pair.parent.block (parent_reached c))

pub new-setting-requires-clause-to : goal.new-setting-requires-clause-to
new-setting-requires-clause-to c = reached_small c.args.pool.now c.args.who c.requires.holds.work c.me.ensures.run c.args.pair.child.block (child_reached c)

pub run-requires-clause-may : goal.run-requires-clause-may
run-requires-clause-may c =
    let at = (goal.at.run-requires-clause-may c).After-me in
    let p = c.args.pool.now in
    let who = c.args.who in
    let holds = c.requires.holds in
    plan_may set_plan (λ (x : Me). setting x c.args.pair.parent.block 0 c.args.pair.child.block) (member p.start.geometry who) _ _ _ c.me.ensures.is c.new-setting.ensures refl
    SetMay (memo_of p who) (refl, holds.client, holds.clear.loose, parent_reached at, λ some. child_reached at)

pub returns-clause-holds : goal.returns-clause-holds
returns-clause-holds c =
    let some : c.run.result ≡ Some c.in_ok-ok_or.field-0 = search rules in
    let p = c.args.pool.now in
    let q = c.run.new.self in
    let who = c.args.who in
    let me = member p.start.geometry who in
    let m = memo_of p who in
    let n = memo_of q who in
    let b = c.args.pair.parent.block in
    let d = c.args.pair.child.block in
    renamed c.in_ok-ok_or.field-0 c.map_err.result c.map_err.ensures.variant (λ u ok.
    let e : c.run.result ≡ Some (Ok u) = some ∙ ap Some ok in
    let z = plan_done set_plan (λ (x : Me). setting x b 0 d) me _ _ _ c.me.ensures.is c.new-setting.ensures refl set_parts who p q c.run.result (Ok u) e c.run.ensures.leaves in
    let queues = c.set_ref_keeps.ensures.left me b 0 d m n n.call z.0 (Ok u) z.2 in
    let rests = queues_rests m n queues (c.set_ref_keeps.ensures.dying me b 0 d m n n.call z.0 (Ok u) z.2) in
    holds_still who p q c.requires.holds ((rw e at c.run.ensures.at_work) tt) c.run.ensures.ran.run (still_kind who true p q _ _ c.requires.holds.work.acts (rw e at c.run.ensures.ran)) rests queues.latch)

pub returns-clause-refers : goal.returns-clause-refers
returns-clause-refers c =
    let some : c.run.result ≡ Some c.in_ok-ok_or.field-0 = search rules in
    let p = c.args.pool.now in
    let q = c.run.new.self in
    let who = c.args.who in
    let me = member p.start.geometry who in
    let m = memo_of p who in
    let n = memo_of q who in
    let k = c.args.pair.parent.root in
    let b = c.args.pair.parent.block in
    let d = c.args.pair.child.block in
    let x = c.requires.rooted in
    renamed c.in_ok-ok_or.field-0 c.map_err.result c.map_err.ensures.variant (λ u ok.
    let e : c.run.result ≡ Some (Ok u) = some ∙ ap Some ok in
    let z = plan_done set_plan (λ (y : Me). setting y b 0 d) me _ _ _ c.me.ensures.is c.new-setting.ensures refl set_parts who p q c.run.result (Ok u) e c.run.ensures.leaves in
    let root : root_word who n k ≡ b = c.set_ref_keeps.ensures.roots me b 0 d m n n.call z.0 (Ok u) z.2 k ∙ x.parent in
    let named = root_named who n k b ((rw e at c.run.ensures.at_work) tt).idle.op x.low.0 x.some.0 root in
    record { low = x.low.0; some = x.some.0; parent = root; reference = c.set_ref_keeps.ensures.set me b 0 d m n n.call z.0 (Ok u) z.2 named })
