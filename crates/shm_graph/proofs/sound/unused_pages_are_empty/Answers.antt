use Rattle.shm_graph.proofs.States.SoundStates.{sound_unused}
use Rattle.shm_graph.proofs.sound.unused_pages_are_empty.Goals as goal

pub returns : goal.returns
returns c = sound_unused
