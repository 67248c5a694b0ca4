-- What comes of a tree once a number is set at a key, level by level from the key's place up.
use Rattle.std.specs.Prelude.{◌≡◌, ◌≢◌, ℕ, ◌+◌, ◌<◌, ◌≤◌, ◌==◌, ◌||◌, Bool, false, not}
use Rattle.shm_graph.specs.{declared.spot.Spot.TheVariants.Body, References.one_if}
use Rattle.shm_plain.specs.Pools.{Pool}
use Rattle.shm_tree.specs.{Building.root_block, Standing.{IsTree, TreeStands, weight, word_of}}
use Rattle.shm_tree.specs.{Trees.{Tree, Empty, Node, inserted}, Sharing.IsCount, Ways.IsEnd}

-- the trees on the two sides of a node, empty ones where there is none
abbrev pub left_of : Tree → Tree
left_of Empty = Empty
left_of (Node k n l r) = l

abbrev pub right_of : Tree → Tree
right_of Empty = Empty
right_of (Node k n l r) = r

-- a balanced search tree stands at b, and a root names it, or it is none
pub record IsRegistered (p : Pool) (b : ℕ) : Type 0 where
  pub tree : (t : Tree) × IsTree p b t
  pub named : b ≢ 0 → (k : ℕ) × (k < 16) × (root_block p k ≡ b)

-- at q there stands at b what comes of the tree at `top` of p, whose node has the key or which is empty, once the number y is set at the key x
abbrev pub StandsLowest : (x y : ℕ) (top b : ℕ) → Pool → Pool → Type 0
StandsLowest x y top b p q = (t : Tree) → TreeStands p top t → IsEnd x t → TreeStands q b (inserted x y t)

-- ---- the blocks that it has in common

-- the block z is a node of the tree that stands at b
abbrev pub is_part : Pool → (z b : ℕ) → Tree → Bool
is_part p z b Empty = false
is_part p z b (Node k n l r) = (z == b) || (is_part p z (word_of p (Body b 0)) l || is_part p z (word_of p (Body b 1)) r)

-- 1 for a block that is no node of the tree that stands at b, and 0 for one that is
abbrev pub outside : Pool → ℕ → Tree → ℕ → ℕ
outside p b t z = one_if (not (is_part p z b t))

-- one block is another one than those of the tree at `top`
abbrev pub WeighsLowest : (x y : ℕ) (top b : ℕ) → Pool → Pool → Type 0
WeighsLowest x y top b p q = (f : ℕ → ℕ) (t : Tree) → IsCount f → TreeStands p top t → IsEnd x t → weight f q b (inserted x y t) ≤ 1 + weight f p top t
