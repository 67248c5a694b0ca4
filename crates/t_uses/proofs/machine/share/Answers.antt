use Rattle.std.proofs.Common.{refl}
use Rattle.shm_graph.specs.declared.ask.Me.{Me}
use Rattle.shm_plain.specs.Pools.{memo_of}
use Rattle.shm_count.specs.{Roots.member, Proved.ShareTask.ShareMay, UpRoot.{Control.rooting, rooting_plan}}
use Rattle.shm_client.proofs.{Reaching.reached_small, Running.plan_may}
use Rattle.t_uses.proofs.machine.share.Goals as goal

pub new-sharing-requires-clause-block : goal.new-sharing-requires-clause-block
new-sharing-requires-clause-block c = reached_small c.args.pool.now c.args.who c.requires.at_work c.me.ensures.run c.args.block c.requires.reached

pub run-requires-clause-may : goal.run-requires-clause-may
run-requires-clause-may c =
    let p = c.args.pool.now in
    let who = c.args.who in
    plan_may rooting_plan (λ (x : Me). rooting x c.args.block) (member p.start.geometry who) _ _ _ c.me.ensures.is c.new-sharing.ensures refl
    ShareMay (memo_of p who) (refl, c.requires.client, c.requires.reached)
