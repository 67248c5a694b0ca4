use Rattle.std.proofs.Common.{◌≡◌, ℕ, Ok, Some, true, sym, ap, ◌∙◌, subst, inl, inr}
use Rattle.shm_graph.specs.Reach.{is_reached}
use Rattle.shm_ref.specs.SetRef.{Control.{set_parts, setting}, set_plan}
use Rattle.shm_pool.specs.Tokens.{me_of}
use Rattle.t_uses.proofs.Having.{reached, still}
use Rattle.t_uses.proofs.single.set_ref.Goals as goal

pub set_ref-requires-clause-reached : goal.set_ref-requires-clause-reached
set_ref-requires-clause-reached c = λ alive. reached (Some c.args.client.now.account.who) c.args.made c.args.client.now c.requires.block

pub set_ref-requires-clause-target : goal.set_ref-requires-clause-target
set_ref-requires-clause-target c = λ alive some.
    let t = c.args.client.now in
    elim c.requires.to [
      | inl none ↦ absurd (some none)
      | inr same ↦ subst (λ (b : ℕ). is_reached t.account.who t.account.memo b ≡ true) (sym same) (reached (Some t.account.who) c.args.made t c.requires.block)
    ]

pub returns-in-Done-Ok-clause-block : goal.returns-in-Done-Ok-clause-block
returns-in-Done-Ok-clause-block c =
    let t = c.args.client.now in
    let u = c.set_ref.new.self in
    let me = me_of t.of t.account in
    let h = rw c.in-Done-Ok.field-0-is at c.in-Done-Ok.ensures.called in
    let k = c.set_ref_keeps.ensures in
    let b = c.args.made.block in
    let d = c.args.to in
    let r0 = t.account.memo in
    let r = u.account.memo in
    let left = h.done.left_so in
    let queues = k.left me b 0 d r0 r _ _ (Ok tt) left in
    still set_parts set_plan (setting me b 0 d) t u _ _ (Ok tt) h (Some t.account.who) (Some u.account.who) c.args.made c.requires.block (queues.latch ∙ (c.requires.block.at.latch ∙ ap Some (sym h.done.same.1))) queues.loose (k.roots me b 0 d r0 r _ _ (Ok tt) left c.args.made.root)
