use Rattle.std.proofs.Common.{Ok}
use Rattle.shm_pool.specs.Tokens.{me_of}
use Rattle.t_pool.proofs.team.name_again.Goals as goal

pub returns-in-Done-Ok-clause-number : goal.returns-in-Done-Ok-clause-number
returns-in-Done-Ok-clause-number c =
    let t = c.args.client.now in
    c.share_keeps.ensures.number (me_of t.of t.account) c.args.made.block t.account.memo c.share.new.self.account.memo _ _ (Ok c.in-Done-Ok.root) (rw c.in-Done-Ok.field-0-is at c.in-Done-Ok.ensures.called.done.left_so)
