use Rattle.shm_versions.proofs.Plays.{played_cut, played_more}
use Rattle.shm_versions.proofs.playing.play.Goals as goal

pub returns-in-Died-clause-played : goal.returns-in-Died-clause-played
returns-in-Died-clause-played c = played_cut _ _ _ _ _ _ _ _ _ _ c.loop-line-test.true c.loop-line.invariant.ran (c.in-Died.ensures.ran c.loop-line.invariant.alive)

pub loop-line-preserved : goal.loop-line-preserved
loop-line-preserved c = record {
  ran = played_more _ _ _ _ _ _ _ _ _ _ _ _ c.loop-line-test.true c.in_ok-push-in-Done.ensures.items c.loop-line.invariant.ran (c.in-Done.ensures.ran c.loop-line.invariant.alive);
  alive = c.in-Done.ensures.died;
}
