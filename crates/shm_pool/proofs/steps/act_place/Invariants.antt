use Rattle.std.specs.Prelude.{◌≡◌, [], ◌∷◌}
use Rattle.shm_graph.specs.{Asks.seen_of, Whole.{fits_now, gives_now}}
use Rattle.shm_pool.specs.Rules.{AccountTold, head_account}
use Rattle.shm_pool.proofs.steps.act_place.Given as goal

abbrev pub ghosts-act_as : goal.ghosts-act_as
ghosts-act_as g a = record { then = λ before n now. (now ≡ head_account now ∷ []) × AccountTold g.M.Machine.control (fits_now g.M.Machine.control g.M.Machine.fits) (gives_now g.M.Machine.gives) a.top.now.key a.m.now (head_account before) (seen_of (g.M.Machine.control.asks a.m.now) n) (head_account now) }
