use Rattle.shm_alone.specs.Proved.TearEnds.{tear_ends}
use Rattle.shm_alone.proofs.counts.tears_end.Goals as goal

pub returns-clause-ends : goal.returns-clause-ends
returns-clause-ends c = tear_ends
