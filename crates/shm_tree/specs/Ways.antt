-- Ways down a tree to a key.
use Rattle.std.specs.Prelude.{◌≡◌, ◌≢◌, ℕ, zero, suc, ◌<◌, nat_lt, if◌then◌else◌}
use Rattle.shm_plain.specs.Pools.{Pool}
use Rattle.shm_tree.specs.{Standing.TreeStands, Trees.{Tree, Empty, Node}}

-- the tree on the side of a node on which a key stands that isn't its own: on the right where it is its own
abbrev pub toward : ℕ → Tree → Tree
toward x Empty = Empty
toward x (Node k n l r) = if nat_lt x k then l else r

-- the tree so many nodes down on the way to a key, which goes on to the greater keys where the key stands
abbrev pub down : ℕ → Tree → ℕ → Tree
down x t zero = t
down x t (suc d) = toward x (down x t d)

-- it has a node
abbrev pub IsSome : Tree → Type 0
IsSome Empty = ⊥
IsSome (Node k n l r) = Unit {0}

-- its node is one of another key
abbrev pub IsOther : ℕ → Tree → Type 0
IsOther x Empty = ⊥
IsOther x (Node k n l r) = x ≢ k

-- it is empty, or its node is the key's
abbrev pub IsEnd : ℕ → Tree → Type 0
IsEnd x Empty = Unit {0}
IsEnd x (Node k n l r) = x ≡ k

-- there are so many nodes on the way to a key
abbrev pub IsDeep : ℕ → Tree → ℕ → Type 0
IsDeep x t d = (i : ℕ) → i < d → IsSome (down x t i)

-- The way to the key x in the tree t ends d nodes down, at the block b: no node above is the key's, and b is the key's node or none
pub record IsPlace (p : Pool) (b x d : ℕ) (t : Tree) : Type 0 where
  pub stands : TreeStands p b (down x t d)
  pub end : IsEnd x (down x t d)
  pub on : (i : ℕ) → i < d → IsOther x (down x t i)

-- Behind the node of the key x, of which t is the tree, the way goes on over e nodes as far as that of the next greater key, at the block b, which has nothing on its left; where nothing is on the right of the key's node e is 0
pub record IsLast (p : Pool) (b x e : ℕ) (t : Tree) : Type 0 where
  pub stands : TreeStands p b (down x t e)
  pub deep : IsDeep x t (suc e)
  pub end : down x t (suc e) ≡ Empty
