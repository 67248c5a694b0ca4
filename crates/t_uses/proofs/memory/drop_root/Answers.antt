use Rattle.std.proofs.{Common.{◌≡◌, true, refl, ◌∙◌, rules, Ok, Some}, lemmas.Bool.eq-eqb}
use Rattle.shm_graph.specs.declared.{ask.Me.Me, spot.Spot.TheVariants.Body}
use Rattle.shm_plain.specs.Pools.{memo_of}
use Rattle.shm_plain.proofs.Calling.{still_kind}
use Rattle.shm_count.specs.Roots.{member, root_word}
use Rattle.shm_ref.specs.DropRoot.{Control.{drop_parts, dropping}, drop_plan}
use Rattle.shm_client.proofs.Running.{plan_done}
use Rattle.t_uses.proofs.{Frees.{holds_still, queues_rests}, Names.root_named}
use Rattle.t_uses.proofs.memory.drop_root.Goals as goal

pub returns-clause-holds : goal.returns-clause-holds
returns-clause-holds c =
    let a = c.in_ok-map_err.field-0 in
    let e : c.run.result ≡ Some (Ok c.in_ok-map_err.field-0) = search rules in
    let p = c.args.pool.now in
    let q = c.run.new.self in
    let who = c.args.who in
    let me = member p.start.geometry who in
    let m = memo_of p who in
    let n = memo_of q who in
    let j = c.args.pair.child.root in
    let z = plan_done drop_plan (λ (x : Me). dropping x j) me _ _ _ c.me.ensures.is c.new-dropping.ensures refl drop_parts who p q c.run.result (Ok a) e c.run.ensures.leaves in
    let queues = c.drop_root_keeps.ensures.left me j m n n.call z.0 (Ok a) z.2 in
    let rests = queues_rests m n queues (c.drop_root_keeps.ensures.dying me j m n n.call z.0 (Ok a) z.2) in
    holds_still who p q c.requires.holds ((rw e at c.run.ensures.at_work) tt) c.run.ensures.ran.run (still_kind who true p q _ _ c.requires.holds.work.acts (rw e at c.run.ensures.ran)) rests queues.latch

pub returns-clause-refers : goal.returns-clause-refers
returns-clause-refers c =
    let a = c.in_ok-map_err.field-0 in
    let e : c.run.result ≡ Some (Ok c.in_ok-map_err.field-0) = search rules in
    let p = c.args.pool.now in
    let q = c.run.new.self in
    let who = c.args.who in
    let me = member p.start.geometry who in
    let m = memo_of p who in
    let n = memo_of q who in
    let j = c.args.pair.child.root in
    let k = c.args.pair.parent.root in
    let b = c.args.pair.parent.block in
    let x = c.requires.refers in
    let z = plan_done drop_plan (λ (y : Me). dropping y j) me _ _ _ c.me.ensures.is c.new-dropping.ensures refl drop_parts who p q c.run.result (Ok a) e c.run.ensures.leaves in
    let root : root_word who n k ≡ b = c.drop_root_keeps.ensures.roots me j m n n.call z.0 (Ok a) z.2 k c.requires.apart ∙ x.parent in
    let named = root_named who n k b ((rw e at c.run.ensures.at_work) tt).idle.op x.low x.some root in
    record { low = x.low; some = x.some; parent = root; reference = z.2.remains.words b (Body b 0) c.args.pair.child.block named (eq-eqb b b refl) x.reference }
