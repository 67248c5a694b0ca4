use Rattle.shm_plain.specs.{Pools.next_of, Tracks.noted}
use Rattle.shm_plain.proofs.track.note.Given as goal

abbrev pub ghosts-note_as : goal.ghosts-note_as
ghosts-note_as g a = record { to = noted (next_of g.M.Machine.control a._m.now a._words.now.items) }
