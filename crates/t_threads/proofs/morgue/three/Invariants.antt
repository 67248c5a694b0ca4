use Rattle.std.proofs.Common.{[], ◌∷◌}
use Rattle.t_threads.proofs.morgue.three.Given as goal

abbrev pub ghosts-three_in : goal.ghosts-three_in
ghosts-three_in g a = record { pools = a.pool.now ∷ [] }
