use Rattle.std.proofs.Common.{List, Ok, Some, sym, ap, ◌∙◌}
use Rattle.plans.specs.Words.{word_control}
use Rattle.shm_graph.specs.{declared.{memo.Stored.Stored, spot.Spot.TheVariants.Root}, Views.own_word}
use Rattle.shm_ref.specs.Look.{look_plan, looking}
use Rattle.shm_pool.specs.Tokens.{me_of}
use Rattle.t_uses.proofs.Having.{reached, still}
use Rattle.t_uses.proofs.single.look.Goals as goal

pub look-requires-clause-reached : goal.look-requires-clause-reached
look-requires-clause-reached c = λ alive. reached (Some c.args.client.now.account.who) c.args.made c.args.client.now c.requires.block

pub returns-in-Done-Ok-clause-block : goal.returns-in-Done-Ok-clause-block
returns-in-Done-Ok-clause-block c =
    let t = c.args.client.now in
    let u = c.look.new.self in
    let me = me_of t.of t.account in
    let h = rw c.in-Done-Ok.field-0-is at c.in-Done-Ok.ensures.called in
    let a = c.in-Done-Ok.block in
    let k = c.look_keeps.ensures in
    let r0 = t.account.memo in
    let r = u.account.memo in
    let left = h.done.left_so in
    let only = k.reads me c.args.made.block 0 r0 r _ _ (Ok a) left in
    still word_control look_plan (looking me c.args.made.block 0) t u _ _ (Ok a) h (Some t.account.who) (Some u.account.who) c.args.made c.requires.block (only.latch ∙ (c.requires.block.at.latch ∙ ap Some (sym h.done.same.1))) (k.loose me c.args.made.block 0 r0 r _ _ (Ok a) left) (ap (λ (o : List Stored). own_word o (Root t.account.who c.args.made.root)) only.own)
