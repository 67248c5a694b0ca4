use Rattle.plans.specs.Proved.Grown.{grown_laws}
use Rattle.shm_count.specs.MadeSteps.{change_making, change_making_laws, down_making, down_making_laws, up_making, up_making_laws}
use Rattle.shm_count.specs.Step.{Control.step_control, Machines.{down_control, up_control}}
use Rattle.shm_count.proofs.lasting.step_in_call.Goals as goal

pub returns-clause-up : goal.returns-clause-up
returns-clause-up c first p = grown_laws first up_control (up_making p first) (up_making_laws p first)

pub returns-clause-down : goal.returns-clause-down
returns-clause-down c first p = grown_laws first down_control (down_making p first) (down_making_laws p first)

pub returns-clause-change : goal.returns-clause-change
returns-clause-change c first p = grown_laws first step_control (change_making p first) (change_making_laws p first)
