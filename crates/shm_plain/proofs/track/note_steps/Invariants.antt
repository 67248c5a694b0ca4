use Rattle.shm_plain.specs.ManySteps.{noted_steps}
use Rattle.shm_plain.proofs.track.note_steps.Given as goal

abbrev pub ghosts-note_steps_as : goal.ghosts-note_steps_as
ghosts-note_steps_as g a = record { to = noted_steps g.M.Machine.control a._who a._life a._m.now a._words.now.items }
