use Rattle.std.proofs.Common.{None, Some}
use Rattle.plans.specs.Words.{word_control}
use Rattle.shm_ref.specs.Release.{release_plan, releasing}
use Rattle.shm_pool.specs.Tokens.{me_of}
use Rattle.t_uses.proofs.Having.{still}
use Rattle.t_uses.proofs.single.give_back.Goals as goal

pub release-requires-clause-held : goal.release-requires-clause-held
release-requires-clause-held c = λ alive. (c.args.client.now.account.who, c.requires.block.at.latch)

pub returns-in-Done-clause-block : goal.returns-in-Done-clause-block
returns-in-Done-clause-block c =
    let t = c.args.client.now in
    let u = c.release.new.self in
    let me = me_of t.of t.account in
    let h = c.in-Done.ensures.called in
    let k = c.release_keeps.ensures in
    let r0 = t.account.memo in
    let r = u.account.memo in
    let left = h.done.left_so in
    still word_control release_plan (releasing me) t u _ _ tt h (Some t.account.who) None c.args.made c.requires.block left.latch (k.loose me r0 r _ _ left) (k.roots me r0 r _ _ left c.args.made.root)
