use Rattle.shm_alone.specs.Proved.TakesEnds.{finish_ends}
use Rattle.shm_alone.proofs.recovering.finish_takes_ends.Goals as goal

pub returns-clause-ends : goal.returns-clause-ends
returns-clause-ends c = finish_ends
