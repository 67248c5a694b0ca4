-- in a pool that nobody is at work on the words hold the partitions of the memos
use Rattle.std.proofs.Common.{ℕ, ◌<◌, subst}
use Rattle.shm_words.specs.declared.geometry.Geometry.{Geometry}
use Rattle.shm_graph.specs.{declared.spot.Spot.{Spot, TheVariants.Home}, Held.PartTie, References.references}
use Rattle.shm_graph.specs.{Runs.memos_of, Spots.see, Tables.contents_of, Views.{View, view}}
use Rattle.shm_graph.proofs.States.StillClean.{targets_still}
use Rattle.shm_plain.specs.{Closings.IsStill, Pools.{IsRun, Pool, memo_of}}

module _ (p : Pool) (run : IsRun p) (still : IsStill p) where
  abbrev g : Geometry
  g = p.start.geometry

  abbrev w : Spot → ℕ
  w = see g p.words

  abbrev v : View
  v = view (memos_of p.accounts)

  pub still_part : (c : ℕ) → c < g.clients → PartTie (contents_of g.wide w (references g.wide w)) c (w (Home c)) (memo_of p c).part
  still_part c l = subst (λ (t : Spot → ℕ). PartTie (contents_of g.wide w t) c (t (Home c)) (memo_of p c).part) (targets_still g w v run.held.at still) (run.held.at.part c l)
