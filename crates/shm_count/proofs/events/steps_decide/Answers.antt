use Rattle.shm_count.specs.Proved.Step.Decides.{down_decides, step_decides, up_decides}
use Rattle.shm_count.proofs.events.steps_decide.Goals as goal

pub returns-clause-up : goal.returns-clause-up
returns-clause-up c = up_decides

pub returns-clause-down : goal.returns-clause-down
returns-clause-down c = down_decides

pub returns-clause-change : goal.returns-clause-change
returns-clause-change c = step_decides
