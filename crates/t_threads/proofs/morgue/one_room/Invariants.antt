use Rattle.std.proofs.Common.{[], ◌∷◌}
use Rattle.t_threads.proofs.morgue.one_room.Given as goal

abbrev pub ghosts-one_room_in : goal.ghosts-one_room_in
ghosts-one_room_in g a = record { pools = a.one.now ∷ a.other.now ∷ [] }
