-- a pool that nobody is at work on, and one that was closed
use Rattle.std.specs.Prelude.{◌≡◌, ℕ, ◌<◌, ◌⊎◌}
use Rattle.shm_graph.specs.{declared.memo.Status.TheVariants.{New, Gone}, Clean.IsClean, Spots.see}
use Rattle.shm_plain.specs.Pools.{Pool, IsRun, memo_of}

-- nobody has joined, or who joined is gone: each identity is so
abbrev pub IsStill : Pool → Type 0
IsStill p = (c : ℕ) → c < p.start.geometry.clients → ((memo_of p c).status ≡ New) ⊎ ((memo_of p c).status ≡ Gone)

-- The turns lead from the first state to the words and accounts, each identity is new or gone there, and the words are clean
pub record IsClosedRun (p : Pool) : Type 0 where
  pub run : IsRun p
  pub still : IsStill p
  pub clean : IsClean p.start.geometry (see p.start.geometry p.words)
