use Rattle.shm_graph.proofs.States.SoundStates.{sound_named, sound_free, sound_counted}
use Rattle.shm_graph.proofs.sound.references_are_counted.Goals as goal

pub returns-clause-named : goal.returns-clause-named
returns-clause-named c = sound_named

pub returns-clause-free : goal.returns-clause-free
returns-clause-free c = sound_free

pub returns-clause-counted : goal.returns-clause-counted
returns-clause-counted c = sound_counted
