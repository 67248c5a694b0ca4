use Rattle.shm_replay.proofs.Aside.{ran_aside}
use Rattle.shm_replay.proofs.closing.revive.Goals as goal

pub returns-clause-others : goal.returns-clause-others
returns-clause-others c = ran_aside c.args.me.who _ _ c.args.pool.now c.recover.new.pool _ _ c.geometry.ensures.run c.recover.ensures.ran
