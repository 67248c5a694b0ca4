use Rattle.shm_alone.specs.Proved.StepEnds.{down_ends_at}
use Rattle.shm_alone.proofs.counts.steps_end.Goals as goal

pub returns-clause-ends : goal.returns-clause-ends
returns-clause-ends c = down_ends_at
