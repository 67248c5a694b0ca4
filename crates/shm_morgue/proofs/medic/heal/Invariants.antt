use Rattle.shm_morgue.specs.Crew.{IsRound}
use Rattle.shm_morgue.proofs.medic.heal.Given as goal

abbrev pub invariant-loop-look : goal.invariant-loop-look
invariant-loop-look g l = IsRound l.trace l.pool l.morgue l.medic l.slots.items
