use Rattle.shm_alone.specs.Proved.BackEnds.{back_ends}
use Rattle.shm_alone.proofs.recovering.take_back_ends.Goals as goal

pub returns-clause-ends : goal.returns-clause-ends
returns-clause-ends c = back_ends
