use Rattle.shm_pool.specs.Rules.{alone}
use Rattle.shm_pool.proofs.Running.{SaysLed}
use Rattle.shm_pool.proofs.steps.run_place.Given as goal

abbrev pub ghosts-run_as : goal.ghosts-run_as
ghosts-run_as g a = record { then = SaysLed g.M.Machine.control g.M.Machine.fits g.M.Machine.gives a.top.now.key a.m.now (alone a.place.now).memo.call }
