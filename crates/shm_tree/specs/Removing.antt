-- What stays of a tree once a key is taken out, level by level from the lowest node on its way up.
use Rattle.std.specs.Prelude.{◌≡◌, ◌≢◌, ℕ, ◌*◌, nat_lt, if◌then◌else◌, Option, None, Some}
use Rattle.shm_plain.specs.Pools.{Pool}
use Rattle.shm_count.specs.declared.answer.Made.{Made}
use Rattle.shm_tree.specs.declared.node.{Content.Content, Side.{Side, TheVariants.{Left, Right}}}
use Rattle.shm_tree.specs.{declared.remove.Removed.Removed, Building.{IsBuilt, IsCut, block_of}}
use Rattle.shm_tree.specs.{Inserting.{left_of, right_of}, Keeping.IsStill, Standing.TreeStands}
use Rattle.shm_tree.specs.{Trees.{Tree, Empty, Node, found, height, removed, without_least}, Ways.down}
use Rattle.shm_tree.specs.Working.{AreSameRoots}

-- ---- trees

-- the tree of a node on a side
abbrev pub side_tree : Side → Tree → Tree
side_tree Left t = left_of t
side_tree Right t = right_of t

-- a tree without its least key
abbrev pub less_least : Tree → Tree
less_least Empty = Empty
less_least (Node k n l r) = without_least k n l r

-- the key and the number of a tree's node
abbrev pub content_in : Tree → Content
content_in Empty = record { key = 0; number = 0 }
content_in (Node k n l r) = record { key = k; number = n }

-- what stays of the tree i nodes down on the way to the key x, whose node is a nodes down
abbrev pub rest : (x a : ℕ) → Tree → ℕ → Tree
rest x a t i = if nat_lt a i then less_least (down x t i) else removed x (down x t i)

-- ---- pools

-- what stood at `top` stands at b
abbrev pub StandsMoved : (top b : ℕ) → Pool → Pool → Type 0
StandsMoved top b p q = (t : Tree) → TreeStands p top t → TreeStands q b t

-- a root that was empty names a tree, and no other root changed; where there is none none did
abbrev pub IsKept : ℕ → Option Made → Pool → Pool → Type 0
IsKept n None p q = IsCut n p q × AreSameRoots p q
IsKept n (Some m) p q = IsBuilt n m p q

-- the tree had the key, and what it is without it was made: n blocks at most
pub record IsWithout (x n : ℕ) (t : Tree) (o : Option Made) (p q : Pool) : Type 0 where
  pub had : found x t ≢ None
  pub stands : TreeStands q (block_of o) (removed x t)
  pub kept : IsKept n o p q

-- what came of a tree that was to be made without the key x: nothing where it hasn't the key
abbrev pub IsRemoved : (x : ℕ) → Tree → Option Removed → Pool → Pool → Type 0
IsRemoved x t None p q = (found x t ≡ None) × IsStill p q
IsRemoved x t (Some w) p q = IsWithout x (3 * height t) t w.tree p q
