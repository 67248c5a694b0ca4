use Rattle.std.proofs.{Common.{◌≡◌, true, refl, sym, ap, ◌∙◌, subst, rules, Ok, Some, List, inl}, lemmas.Bool.eq-eqb}
use Rattle.std.specs.List.{Contains}
use Rattle.shm_graph.specs.declared.{ask.Me.Me, memo.{Memo.Memo, Stored.Stored}}
use Rattle.shm_graph.specs.{declared.spot.Spot.TheVariants.{Body, Home, Root}, Reach.is_reached}
use Rattle.shm_plain.specs.Pools.{memo_of}
use Rattle.shm_plain.proofs.Calling.{still_kind}
use Rattle.shm_count.specs.{Roots.member, Tear.Memos.Knows}
use Rattle.shm_count.proofs.RootSpots.{roots_reached}
use Rattle.shm_ref.specs.{Proved.RootTasks.HomeMay, SetHome.{home_parts, home_plan, homing}}
use Rattle.shm_client.proofs.{Reaching.{home_unread, reached_small}, Running.{plan_done, plan_may}}
use Rattle.t_uses.proofs.{Done.renamed, Frees.free_again, Names.{known_word, own_here}, Pairs.home_rests}
use Rattle.t_uses.proofs.memory.set_home.Goals.{After-me}
use Rattle.t_uses.proofs.memory.set_home.Goals as goal

-- the block is in reach, as a root names it
reached : (c : After-me) → is_reached c.args.who (memo_of c.args.pool.now c.args.who) c.args.pair.parent.block ≡ true
reached c =
    let x = c.requires.refers in
    roots_reached c.args.who (memo_of c.args.pool.now c.args.who) c.requires.free.work.idle.op c.args.pair.parent.root c.args.pair.parent.block x.low x.some x.parent

pub new-homing-requires-clause-block : goal.new-homing-requires-clause-block
new-homing-requires-clause-block c = reached_small c.args.pool.now c.args.who c.requires.free.work c.me.ensures.run c.args.pair.parent.block (reached c)

pub run-requires-clause-may : goal.run-requires-clause-may
run-requires-clause-may c =
    let at = (goal.at.run-requires-clause-may c).After-me in
    let p = c.args.pool.now in
    let who = c.args.who in
    let free = c.requires.free in
    plan_may home_plan (λ (x : Me). homing x c.args.pair.parent.block) (member p.start.geometry who) _ _ _ c.me.ensures.is c.new-homing.ensures refl
    HomeMay (memo_of p who) (refl, free.client, reached at, λ empty. inl (home_unread (memo_of p who).part who free.clear.loose))

pub returns-clause-free : goal.returns-clause-free
returns-clause-free c =
    let some : c.run.result ≡ Some c.in_ok-ok_or.field-0 = search rules in
    let p = c.args.pool.now in
    let q = c.run.new.self in
    let who = c.args.who in
    let me = member p.start.geometry who in
    let m = memo_of p who in
    let n = memo_of q who in
    let b = c.args.pair.parent.block in
    let free = c.requires.free in
    renamed c.in_ok-ok_or.field-0 c.map_err.result c.map_err.ensures.variant (λ u ok.
    let e : c.run.result ≡ Some (Ok u) = some ∙ ap Some ok in
    let z = plan_done home_plan (λ (x : Me). homing x b) me _ _ _ c.me.ensures.is c.new-homing.ensures refl home_parts who p q c.run.result (Ok u) e c.run.ensures.leaves in
    let rests = home_rests me b m n n.call z.0 z.2 (c.set_home_keeps.ensures.loose me b m n n.call z.0 (Ok u) z.2) in
    free_again who p q free ((rw e at c.run.ensures.at_work) tt) c.run.ensures.ran.run (still_kind who true p q _ _ free.work.acts (rw e at c.run.ensures.ran)) rests
    (c.set_home_keeps.ensures.latch me b m n n.call z.0 (Ok u) z.2 ∙ free.clear.latch))

pub returns-clause-refers : goal.returns-clause-refers
returns-clause-refers c =
    let some : c.run.result ≡ Some c.in_ok-ok_or.field-0 = search rules in
    let p = c.args.pool.now in
    let q = c.run.new.self in
    let who = c.args.who in
    let me = member p.start.geometry who in
    let m = memo_of p who in
    let n = memo_of q who in
    let k = c.args.pair.parent.root in
    let b = c.args.pair.parent.block in
    let d = c.args.pair.child.block in
    let run = c.run.ensures.ran.run in
    let said = c.requires.refers in
    renamed c.in_ok-ok_or.field-0 c.map_err.result c.map_err.ensures.variant (λ u ok.
    let e : c.run.result ≡ Some (Ok u) = some ∙ ap Some ok in
    let z = plan_done home_plan (λ (x : Me). homing x b) me _ _ _ c.me.ensures.is c.new-homing.ensures refl home_parts who p q c.run.result (Ok u) e c.run.ensures.leaves in
    let low = ((rw e at c.run.ensures.at_work) tt).who in
    let known = ap (λ (y : Memo). y.known) z.2.filled.rest in
    let knows : Knows n (Body b 0) d = subst (λ (ks : List Stored). Contains ks (record { spot = Body b 0; value = d })) (sym known) said.reference in
    record {
      root = own_here q who run low (Root who k) (eq-eqb who who refl) ∙ (c.set_home_keeps.ensures.roots me b m n n.call z.0 (Ok u) z.2 k ∙ said.parent);
      home = own_here q who run low (Home who) (eq-eqb who who refl) ∙ c.set_home_keeps.ensures.set me b m n n.call z.0 (Ok u) z.2;
      reference = known_word q who run low b 0 d knows;
    })
