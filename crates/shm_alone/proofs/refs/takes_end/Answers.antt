use Rattle.shm_alone.specs.Proved.QueuesEnd.{take_ends}
use Rattle.shm_alone.proofs.refs.takes_end.Goals as goal

pub returns-clause-ends : goal.returns-clause-ends
returns-clause-ends c = take_ends
