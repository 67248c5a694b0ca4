use Rattle.t_uses.proofs.Polls.{IsRescuing}
use Rattle.t_uses.proofs.polled.recovered.Given as goal

abbrev pub invariant-loop-given : goal.invariant-loop-given
invariant-loop-given l = IsRescuing l.pool l.fn.corpse.account.who l.future

abbrev pub decreases-loop-given : goal.decreases-loop-given
decreases-loop-given l = l.future.life.left
