use Rattle.shm_alone.specs.Proved.TestEnds.{test_ends}
use Rattle.shm_alone.proofs.counts.tests_end.Goals as goal

pub returns-clause-ends : goal.returns-clause-ends
returns-clause-ends c = test_ends
