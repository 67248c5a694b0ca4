use Rattle.shm_graph.proofs.States.SoundStates.{sound_shown, sound_by_header, sound_by_row, sound_past}
use Rattle.shm_graph.proofs.sound.commitment_is_shown.Goals as goal

pub returns-clause-shown : goal.returns-clause-shown
returns-clause-shown c = sound_shown

pub returns-clause-by_header : goal.returns-clause-by_header
returns-clause-by_header c = sound_by_header

pub returns-clause-by_row : goal.returns-clause-by_row
returns-clause-by_row c = sound_by_row

pub returns-clause-past : goal.returns-clause-past
returns-clause-past c = sound_past
