use Rattle.shm_alone.specs.Proved.MendEnds.{mend_ends}
use Rattle.shm_alone.proofs.recovering.mend_ends.Goals as goal

pub returns-clause-ends : goal.returns-clause-ends
returns-clause-ends c = mend_ends
