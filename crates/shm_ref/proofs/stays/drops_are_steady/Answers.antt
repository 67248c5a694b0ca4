use Rattle.shm_ref.proofs.Steady.{drop_steady, roots_steady}
use Rattle.shm_ref.proofs.stays.drops_are_steady.Goals as goal

pub returns-clause-one : goal.returns-clause-one
returns-clause-one c = drop_steady

pub returns-clause-all : goal.returns-clause-all
returns-clause-all c = roots_steady
