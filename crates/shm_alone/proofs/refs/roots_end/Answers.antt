use Rattle.shm_alone.specs.Proved.RootsEnd.{roots_end}
use Rattle.shm_alone.proofs.refs.roots_end.Goals as goal

pub returns-clause-ends : goal.returns-clause-ends
returns-clause-ends c = roots_end
