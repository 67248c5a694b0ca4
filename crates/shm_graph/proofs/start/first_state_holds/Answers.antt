use Rattle.shm_graph.proofs.States.FirstHeld.{first_held}
use Rattle.shm_graph.proofs.start.first_state_holds.Goals as goal

pub returns : goal.returns
returns c = first_held
