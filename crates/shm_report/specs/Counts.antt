-- what a pass over the words of a pool has counted
use Rattle.std.specs.Prelude.{◌≡◌, ℕ, ◌+◌, ◌-◌, ◌*◌, ◌%◌, ◌<◌, ◌≤◌, ◌==◌, if◌then◌else◌, List, ◌⊎◌}
use Rattle.shm_words.specs.{declared.geometry.Geometry.Geometry, Layout.{total_of, bodies}, Classes.IsClass}
use Rattle.shm_graph.specs.{declared.spot.Spot.TheVariants.Head, Spots.{see, spot_at, classes_in, class_at}}
use Rattle.shm_graph.specs.{Blocks.headers, References.{sum_below, one_if, references}}
use Rattle.shm_report.specs.PoolWords.{IsCleanPool}

-- 1 where the word at an address names a block
abbrev pub names_one : Geometry → List ℕ → ℕ → ℕ
names_one g ws a = if references g.wide (see g ws) (spot_at g (classes_in g ws) a) == 0 then 0 else 1

-- so many blocks that begin below an address are live, and so many words below it name one
pub record Counted (g : Geometry) (ws : List ℕ) (n alive found : ℕ) : Type 0 where
  pub live : alive ≡ sum_below n (λ b. one_if (headers (see g ws) b).live)
  pub refs : IsCleanPool g ws → found ≡ sum_below n (names_one g ws)
  pub room : (alive ≤ n) × (found ≤ 255 * n)

-- no block begins behind this one and before an address, which is its end where its page has a class of blocks
pub record IsEndOf (g : Geometry) (ws : List ℕ) (b n : ℕ) : Type 0 where
  pub above : b < n
  pub alone : (a : ℕ) → b < a → a < n → see g ws (Head a) ≡ 0
  pub whole : IsClass (class_at g (classes_in g ws) b) → n ≡ b + class_at g (classes_in g ws) b

-- a page begins here whose blocks stand so many words behind one another
pub record IsPage (g : Geometry) (ws : List ℕ) (first step : ℕ) : Type 0 where
  pub start : bodies g ≤ first
  pub end : first + 128 ≤ total_of g
  pub page : (first - bodies g) % 128 ≡ 0
  pub some : (0 < step) × (step ≤ 128)
  pub class : (class_at g (classes_in g ws) first ≡ step) ⊎ ((step ≡ 128) × (128 ≤ class_at g (classes_in g ws) first))
