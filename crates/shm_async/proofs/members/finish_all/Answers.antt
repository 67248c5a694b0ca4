use Rattle.std.proofs.{Common.◌∙◌, lemmas.Result.IfOk-weaker}
use Rattle.shm_async.proofs.Starting.{dones_each, here_each}
use Rattle.shm_async.proofs.members.finish_all.Goals as goal

pub end_all-requires : goal.end_all-requires
end_all-requires g c = here_each c.args.trace.now c.args.pool.now c.args.members.items c.requires

pub returns-clause-many : goal.returns-clause-many
returns-clause-many g c = IfOk-weaker c.end_all.result _ _ (λ v e. e ∙ c.requires.many) c.end_all.ensures.many

pub returns-clause-dones : goal.returns-clause-dones
returns-clause-dones g c = IfOk-weaker c.end_all.result _ _ (λ v e. dones_each c.args.trace.now c.args.pool.now 0 v.items e) c.end_all.ensures.dones
