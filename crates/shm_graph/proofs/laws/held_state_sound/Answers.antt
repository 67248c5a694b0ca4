use Rattle.shm_graph.proofs.States.HeldSound.{held_state_sound}
use Rattle.shm_graph.proofs.laws.held_state_sound.Goals as goal

pub returns : goal.returns
returns c = held_state_sound
