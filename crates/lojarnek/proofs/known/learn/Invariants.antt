use Rattle.lojarnek.proofs.Learning.{IsLearning}
use Rattle.lojarnek.proofs.known.learn.Given as goal

abbrev pub invariant-loop-k : goal.invariant-loop-k
invariant-loop-k l = IsLearning l.fn.token l.fn.life.left l.token l.life.left l.roots.named l.k
