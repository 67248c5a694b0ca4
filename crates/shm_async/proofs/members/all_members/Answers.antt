use Rattle.std.proofs.Common.{◌∙◌}
use Rattle.shm_async.proofs.Starting.{both_ok, members_here, starts}
use Rattle.shm_async.proofs.members.all_members.Goals as goal

pub start_all-requires : goal.start_all-requires
start_all-requires g c = starts c.args.trace.now c.args.pool.now c.args.q 0 c.args.jobs.items c.requires.turns c.requires.jobs

pub returns : goal.returns
returns g c = both_ok c.start_all.result _ _ _ (λ v many here. members_here c.args.trace.now c.args.pool.now v.items (many ∙ c.requires.many) here) c.start_all.ensures.many c.start_all.ensures.here
