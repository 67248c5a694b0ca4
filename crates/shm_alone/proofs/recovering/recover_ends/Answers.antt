use Rattle.shm_alone.specs.Proved.RecoverEnds.{recover_ends, recover_few}
use Rattle.shm_alone.proofs.recovering.recover_ends.Goals as goal

pub returns-clause-ends : goal.returns-clause-ends
returns-clause-ends c = recover_ends

pub returns-clause-few : goal.returns-clause-few
returns-clause-few c = recover_few
