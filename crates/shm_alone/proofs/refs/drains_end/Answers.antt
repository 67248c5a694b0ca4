use Rattle.shm_alone.specs.Proved.QueuesEnd.{drain_ends}
use Rattle.shm_alone.proofs.refs.drains_end.Goals as goal

pub returns-clause-ends : goal.returns-clause-ends
returns-clause-ends c = drain_ends
