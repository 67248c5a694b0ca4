use Rattle.shm_plain.specs.Pools.{IsRun}
use Rattle.t_uses.proofs.Attempts.{Attempts}
use Rattle.t_uses.proofs.table.attempt.Given as goal

abbrev pub invariant-loop-answer : goal.invariant-loop-answer
invariant-loop-answer l = IsRun l.pool × Attempts l.initial.pool l.who l.line l.initial.life.left l.pool l.machine l.life.left

abbrev pub decreases-loop-answer : goal.decreases-loop-answer
decreases-loop-answer l = l.life.left
