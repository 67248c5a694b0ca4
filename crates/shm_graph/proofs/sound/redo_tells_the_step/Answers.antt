use Rattle.shm_graph.proofs.States.SoundStates.{sound_up, sound_down, sound_change}
use Rattle.shm_graph.proofs.sound.redo_tells_the_step.Goals as goal

pub returns-clause-up : goal.returns-clause-up
returns-clause-up c = sound_up

pub returns-clause-down : goal.returns-clause-down
returns-clause-down c = sound_down

pub returns-clause-change : goal.returns-clause-change
returns-clause-change c = sound_change
