use Rattle.shm_graph.proofs.States.StillClean.{still_state_clean}
use Rattle.shm_graph.proofs.laws.still_state_clean.Goals as goal

pub returns : goal.returns
returns c = still_state_clean
