use Rattle.std.proofs.Common.{◌≡◌, true, ap, ◌∙◌, rules, Ok, Some, refl}
use Rattle.shm_graph.specs.declared.ask.Me.{Me}
use Rattle.shm_plain.specs.Pools.{memo_of}
use Rattle.shm_plain.proofs.Calling.{still_kind}
use Rattle.plans.specs.Words.{word_control}
use Rattle.shm_count.specs.Roots.{member}
use Rattle.shm_ref.specs.Hold.{Control.holding, hold_plan}
use Rattle.shm_client.proofs.Running.{plan_done}
use Rattle.t_uses.proofs.{Done.renamed, Frees.{holds_now, waiting_rests}}
use Rattle.t_uses.proofs.memory.take_latch.Goals as goal

pub returns-clause-holds : goal.returns-clause-holds
returns-clause-holds c =
    let some : c.run.result ≡ Some c.in_ok-ok_or.field-0 = search rules in
    let p = c.args.pool.now in
    let q = c.run.new.self in
    let who = c.args.who in
    let me = member p.start.geometry who in
    let m = memo_of p who in
    let n = memo_of q who in
    renamed c.in_ok-ok_or.field-0 c.map_err.result c.map_err.ensures.variant (λ u ok.
    let e : c.run.result ≡ Some (Ok u) = some ∙ ap Some ok in
    let z = plan_done hold_plan (λ (x : Me). holding x who) me _ _ _ c.me.ensures.is c.new-holding.ensures refl word_control who p q c.run.result (Ok u) e c.run.ensures.leaves in
    let rests = waiting_rests m n (c.hold_keeps.ensures.loose me who m n n.call z.0 (Ok u) z.2) (c.hold_keeps.ensures.waiting me who m n n.call z.0 (Ok u) z.2) in
    holds_now who p q c.requires.free ((rw e at c.run.ensures.at_work) tt) c.run.ensures.ran.run (still_kind who true p q _ _ c.requires.free.work.acts (rw e at c.run.ensures.ran)) rests
    (c.hold_keeps.ensures.held me who m n n.call z.0 (Ok u) z.2))
