-- References of blocks that go to blocks of lower rank.
use Rattle.std.specs.Prelude.{◌≡◌, ◌≢◌, ℕ, ◌<◌, ◌≤◌}
use Rattle.shm_graph.specs.{declared.spot.Spot.{Spot, TheVariants.{Body, Home}}, Runs.memos_of, Spots.see}
use Rattle.shm_graph.specs.Views.{targets, view}
use Rattle.shm_plain.specs.Pools.{Pool}

-- the block that a word names, or 0; a step that is committed is done
abbrev pub named_at : Pool → Spot → ℕ
named_at p s = targets p.start.geometry (see p.start.geometry p.words) (view (memos_of p.accounts)) s

-- The home names nothing, and each reference of a block goes to a block of lower rank, so that no block is above itself. It may be in the midst of a call
pub record AreFalling (p : Pool) : Type 0 where
  pub home : named_at p (Home 0) ≡ 0
  pub rank : ℕ → ℕ
  pub most : ℕ
  pub falls : (d i : ℕ) → named_at p (Body d i) ≢ 0 → (rank (named_at p (Body d i)) < rank d) × (rank d ≤ most)

-- references of blocks fall in q where they did in p
unfoldable pub KeepsFalling : Pool → Pool → Type 0
KeepsFalling p q = AreFalling p → AreFalling q

-- no word of a block names this block
abbrev pub IsUnnamed : Pool → ℕ → Type 0
IsUnnamed p b = (d i : ℕ) → named_at p (Body d i) ≢ b
