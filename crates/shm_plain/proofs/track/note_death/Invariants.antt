use Rattle.shm_plain.specs.Tracks.{fallen}
use Rattle.shm_plain.proofs.track.note_death.Given as goal

abbrev pub ghosts-note_death_as : goal.ghosts-note_death_as
ghosts-note_death_as a = record { to = fallen a._who }
