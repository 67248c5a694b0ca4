use Rattle.shm_count.specs.Proved.Step.Going.{begins}
use Rattle.shm_count.proofs.events.step_begins.Goals as goal

pub returns : goal.returns
returns c = begins
