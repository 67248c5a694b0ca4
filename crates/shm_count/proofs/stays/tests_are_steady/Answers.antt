use Rattle.shm_count.proofs.Steady.Tests.{test_steady}
use Rattle.shm_count.proofs.stays.tests_are_steady.Goals as goal

pub returns : goal.returns
returns c = test_steady
