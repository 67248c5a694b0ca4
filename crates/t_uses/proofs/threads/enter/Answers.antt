use Rattle.std.proofs.Common.{sym, ap}
use Rattle.shm_graph.specs.{declared.memo.Kind.TheVariants.Client, Runs.account_entered}
use Rattle.shm_pool.specs.{Called.Rests, Tokens.{Token, me_of}}
use Rattle.shm_pool.proofs.Keeping.{rests_joined}
use Rattle.t_uses.proofs.Quiet.{quiet_first}
use Rattle.t_uses.proofs.threads.enter.Goals as goal

pub returns-in-Ok-clause-quiet : goal.returns-in-Ok-clause-quiet
returns-in-Ok-clause-quiet c =
    let e = c.in-Ok.ensures in
    let t = c.in-Ok.client in
    let k = c.args.token in
    let rests : Rests t = rests_joined (me_of k.of k.account) _ t t.account.memo.call (sym e.same.1) e.gives e.leaves.1 in
    quiet_first c.args.pool.now.start (me_of k.of k.account) k.account.who _ t t.account.memo.call c.requires.first.1 (ap (λ (y : Token). (account_entered Client y.account).memo) c.requires.first.0) e.gives rests
