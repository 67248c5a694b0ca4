use Rattle.std.proofs.Common.{Ok, None, inl, ◌∙◌}
use Rattle.shm_ref.specs.SetHome.{home_parts, home_plan, homing}
use Rattle.shm_client.proofs.Reaching.{home_unread}
use Rattle.shm_pool.specs.Tokens.{me_of}
use Rattle.t_uses.proofs.Having.{reached, still}
use Rattle.t_uses.proofs.single.set_home.Goals as goal

pub set_home-requires-clause-reached : goal.set_home-requires-clause-reached
set_home-requires-clause-reached c = λ alive. reached None c.args.made c.args.client.now c.requires.block

pub set_home-requires-clause-keeps : goal.set_home-requires-clause-keeps
set_home-requires-clause-keeps c = λ alive empty. inl (home_unread c.args.client.now.account.memo.part c.args.client.now.account.who c.requires.block.at.single)

pub returns-in-Done-Ok-clause-block : goal.returns-in-Done-Ok-clause-block
returns-in-Done-Ok-clause-block c =
    let t = c.args.client.now in
    let u = c.set_home.new.self in
    let me = me_of t.of t.account in
    let h = rw c.in-Done-Ok.field-0-is at c.in-Done-Ok.ensures.called in
    let k = c.set_home_keeps.ensures in
    let b = c.args.made.block in
    let r0 = t.account.memo in
    let r = u.account.memo in
    let left = h.done.left_so in
    still home_parts home_plan (homing me b) t u _ _ (Ok tt) h None None c.args.made c.requires.block (k.latch me b r0 r _ _ (Ok tt) left ∙ c.requires.block.at.latch) (k.loose me b r0 r _ _ (Ok tt) left) (k.roots me b r0 r _ _ (Ok tt) left c.args.made.root)
