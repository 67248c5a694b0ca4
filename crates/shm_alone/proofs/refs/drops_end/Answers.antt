use Rattle.shm_alone.specs.Proved.RootsEnd.{drop_ends}
use Rattle.shm_alone.proofs.refs.drops_end.Goals as goal

pub returns-clause-ends : goal.returns-clause-ends
returns-clause-ends c = drop_ends
