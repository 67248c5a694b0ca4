use Rattle.shm_count.specs.MadeSteps.{made_up_laws}
use Rattle.shm_count.proofs.lasting.up_of_made.Goals as goal

pub returns : goal.returns
returns c = made_up_laws
