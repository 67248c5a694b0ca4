use Rattle.plans.specs.Proved.Grown.{grown_laws}
use Rattle.shm_count.specs.{MadeSteps.tear_making, Proved.MadeSteps.tear_making_laws, Tear.Control.tear_control}
use Rattle.shm_count.proofs.lasting.tear_in_call.Goals as goal

pub returns : goal.returns
returns c first = grown_laws first tear_control (tear_making first) (tear_making_laws first)
