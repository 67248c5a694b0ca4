use Rattle.shm_alone.specs.Proved.LeaveEnds.{leave_ends, leave_few}
use Rattle.shm_alone.proofs.recovering.leave_ends.Goals as goal

pub returns-clause-ends : goal.returns-clause-ends
returns-clause-ends c = leave_ends

pub returns-clause-few : goal.returns-clause-few
returns-clause-few c = leave_few
