use Rattle.shm_count.specs.Proved.Step.Tells.{step_tells}
use Rattle.shm_count.proofs.events.step_events.Goals as goal

pub returns : goal.returns
returns c = step_tells
