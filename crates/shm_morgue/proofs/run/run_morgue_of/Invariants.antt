use Rattle.std.proofs.Common.{◌∷◌, []}
use Rattle.shm_morgue.proofs.run.run_morgue_of.Given as goal

abbrev pub ghosts-run_in : goal.ghosts-run_in
ghosts-run_in g a = record { pools = a.pool.now ∷ [] }
