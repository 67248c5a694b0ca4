use Rattle.lojarnek.proofs.Latches.{IsTrying}
use Rattle.lojarnek.proofs.latch.take.Given as goal

abbrev pub invariant-tries : goal.invariant-tries
invariant-tries l = IsTrying l.fn.token l.fn.life.left l.token l.life.left

abbrev pub decreases-tries : goal.decreases-tries
decreases-tries l = l.life.left
