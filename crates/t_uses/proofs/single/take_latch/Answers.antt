use Rattle.std.proofs.Common.{Ok, Some, None, sym, ap, ◌∙◌}
use Rattle.plans.specs.Words.{word_control}
use Rattle.shm_ref.specs.Hold.{Control.holding, hold_plan}
use Rattle.shm_pool.specs.Tokens.{me_of}
use Rattle.t_uses.proofs.Having.{still}
use Rattle.t_uses.proofs.single.take_latch.Goals as goal

pub returns-in-Done-Ok-clause-block : goal.returns-in-Done-Ok-clause-block
returns-in-Done-Ok-clause-block c =
    let t = c.args.client.now in
    let u = c.hold.new.self in
    let me = me_of t.of t.account in
    let h = rw c.in-Done-Ok.field-0-is at c.in-Done-Ok.ensures.called in
    let k = c.hold_keeps.ensures in
    let r0 = t.account.memo in
    let r = u.account.memo in
    let left = h.done.left_so in
    still word_control hold_plan (holding me c.client-who.result) t u _ _ (Ok tt) h None (Some u.account.who) c.args.made c.requires.block (k.held me _ r0 r _ _ (Ok tt) left ∙ ap Some (c.client-who.ensures.is ∙ sym h.done.same.1)) (k.loose me _ r0 r _ _ (Ok tt) left) (k.roots me _ r0 r _ _ (Ok tt) left c.args.made.root)
