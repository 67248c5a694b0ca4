use Rattle.std.proofs.Common.{◌≡◌, ◌≤◌, ◌==◌, cond}
use Rattle.shm_graph.specs.{declared.spot.Spot.TheVariants.Home, Spots.see, References.sum_below}
use Rattle.shm_report.proofs.pool_words.homes_in_all.Given as goal

abbrev pub invariant-loop-c : goal.invariant-loop-c
invariant-loop-c l = (l.homes ≤ l.c) × (l.homes ≡ sum_below l.c (λ c. cond (see l.geometry l.words (Home c) == 0) 0 1))
