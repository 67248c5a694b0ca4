use Rattle.std.proofs.Common.{true, ◌∙◌, refl}
use Rattle.shm_plain.specs.Pools.{memo_of}
use Rattle.shm_plain.proofs.Calling.{still_kind}
use Rattle.plans.specs.Words.{word_control}
use Rattle.shm_count.specs.Roots.{member}
use Rattle.shm_ref.specs.Release.{release_plan, releasing}
use Rattle.shm_client.proofs.Running.{plan_done}
use Rattle.t_uses.proofs.{Done.answered, Frees.{holds_no_more, waiting_rests}, Names.{root_named, still_known}}
use Rattle.t_uses.proofs.memory.give_back.Goals as goal

pub returns-clause-free : goal.returns-clause-free
returns-clause-free c =
    let p = c.args.pool.now in
    let q = c.run.new.self in
    let who = c.args.who in
    let me = member p.start.geometry who in
    let m = memo_of p who in
    let n = memo_of q who in
    answered c.run.result c.ok_or.result c.ok_or.ensures.variant (λ u e.
    let z = plan_done release_plan releasing me _ _ _ c.me.ensures.is c.new-releasing.ensures refl word_control who p q c.run.result u e c.run.ensures.leaves in
    let rests = waiting_rests m n (c.release_keeps.ensures.loose me m n n.call z.0 z.2) (c.release_keeps.ensures.waiting me m n n.call z.0 z.2) in
    holds_no_more who p q c.requires.holds ((rw e at c.run.ensures.at_work) tt) c.run.ensures.ran.run (still_kind who true p q _ _ c.requires.holds.work.acts (rw e at c.run.ensures.ran)) rests z.2.latch)

pub returns-clause-refers : goal.returns-clause-refers
returns-clause-refers c =
    let p = c.args.pool.now in
    let q = c.run.new.self in
    let who = c.args.who in
    let me = member p.start.geometry who in
    let m = memo_of p who in
    let n = memo_of q who in
    let k = c.args.pair.parent.root in
    let b = c.args.pair.parent.block in
    let x = c.requires.refers in
    answered c.run.result c.ok_or.result c.ok_or.ensures.variant (λ u e.
    let z = plan_done release_plan releasing me _ _ _ c.me.ensures.is c.new-releasing.ensures refl word_control who p q c.run.result u e c.run.ensures.leaves in
    let named = root_named who m k b c.requires.holds.work.idle.op x.low x.some x.parent in
    record {
      low = x.low;
      some = x.some;
      parent = c.release_keeps.ensures.roots me m n n.call z.0 z.2 k ∙ x.parent;
      reference = still_known p.start.geometry.wide who b 0 c.args.pair.child.block m n z.2.memo c.requires.holds.latch named x.reference;
    })
