-- The blocks that trees have in common.
use Rattle.std.specs.Prelude.{◌≡◌, ℕ, ◌+◌, ◌<◌, ◌≤◌, false}
use Rattle.shm_plain.specs.Pools.{Pool}
use Rattle.shm_count.specs.declared.answer.Made.{Made}
use Rattle.shm_tree.specs.{Building.{from_far, joined_by}, declared.{balance.Plan.Plan, node.Content.Content}}
use Rattle.shm_tree.specs.{declared.node.{Pair.Pair, Side.Side}, Keeping.{child_of, is_live, node_by, other_side}}
use Rattle.shm_tree.specs.{Standing.{TreeStands, weight}, Trees.{Tree, AreNear, height}}

-- f counts a block once, or not
abbrev pub IsCount : (ℕ → ℕ) → Type 0
IsCount f = (b : ℕ) → f b ≤ 1

-- what was built is at a block that wasn't live
abbrev pub IsFresh : Pool → Made → Type 0
IsFresh p m = is_live p m.block ≡ false

-- ---- how many of the blocks are others than those of the trees of which it was built

abbrev pub WeighsRaised : Content → Side → Plan → ℕ → ℕ → Pool → Pool → Type 0
WeighsRaised top s below far b p q =
    (f : ℕ → ℕ) (x y z : Tree) → IsCount f → TreeStands p below.trees.near x → TreeStands p below.trees.far y → TreeStands p far z → weight f q b (node_by s top (node_by s below.content x y) z) ≤ 2 + weight f p below.trees.near x + weight f p below.trees.far y + weight f p far z

abbrev pub WeighsCrowned : Content → Side → Plan → Plan → ℕ → Pool → Pool → Type 0
WeighsCrowned top s near far b p q =
    (f : ℕ → ℕ) (x y z t : Tree) → IsCount f → TreeStands p near.trees.near x → TreeStands p near.trees.far y → TreeStands p far.trees.near z → TreeStands p far.trees.far t
    → weight f q b (node_by s top (node_by s near.content x y) (node_by (other_side s) far.content z t)) ≤ 3 + weight f p near.trees.near x + weight f p near.trees.far y + weight f p far.trees.near z + weight f p far.trees.far t

-- where the far tree's far tree moved up its node is another one
abbrev pub WeighsTurned : Content → Side → Pair → ℕ → Pool → Pool → Type 0
WeighsTurned c s trees b p q =
    (f : ℕ → ℕ) (x y z : Tree) (d : Content) → IsCount f → TreeStands p trees.near x → TreeStands p trees.far (node_by s d y z) → f trees.far + weight f q b (node_by s d (node_by s c x y) z) ≤ 2 + weight f p trees.near x + weight f p trees.far (node_by s d y z)

-- where the node of its near tree moved up by two that one is another one too
abbrev pub WeighsTurnedTwice : Content → Side → Pair → ℕ → Pool → Pool → Type 0
WeighsTurnedTwice c s trees b p q =
    (f : ℕ → ℕ) (x y z t : Tree) (d e : Content) → IsCount f → TreeStands p trees.near x → TreeStands p trees.far (node_by s d (node_by s e y z) t)
    → f trees.far + f (child_of p trees.far s) + weight f q b (node_by s e (node_by s c x y) (node_by s d z t)) ≤ 3 + weight f p trees.near x + weight f p trees.far (node_by s d (node_by s e y z) t)

-- f counts the block of a node, and that of its child on a side where this one is the higher one
pub record CountsTop (f : ℕ → ℕ) (p : Pool) (s : Side) (b : ℕ) : Type 0 where
  pub top : f b ≡ 1
  pub high : (y z : Tree) → TreeStands p (child_of p b s) y → TreeStands p (child_of p b (other_side s)) z → height z < height y → f (child_of p b s) ≡ 1

-- a tree that is higher by 2 than the other is replaced at its top, and one block more is another one
abbrev pub WeighsFar : Content → Side → Pair → ℕ → Pool → Pool → Type 0
WeighsFar c s trees b p q =
    (f : ℕ → ℕ) (x y : Tree) → IsCount f → CountsTop f p s trees.far → TreeStands p trees.near x → TreeStands p trees.far y → weight f q b (from_far s c x y) ≤ 1 + weight f p trees.near x + weight f p trees.far y

abbrev pub WeighsJoined : Content → Side → Pair → ℕ → Pool → Pool → Type 0
WeighsJoined c s trees b p q =
    (f : ℕ → ℕ) (x y : Tree) → IsCount f → (height x + 1 < height y → CountsTop f p s trees.far) → (height y + 1 < height x → CountsTop f p (other_side s) trees.near) → TreeStands p trees.near x → TreeStands p trees.far y
    → weight f q b (joined_by s c x y) ≤ 1 + weight f p trees.near x + weight f p trees.far y

-- where the heights of two trees that stood differ by at most 1, the first is a child of what was built, on this side
abbrev pub IsOver : Pair → Side → ℕ → Pool → Pool → Type 0
IsOver trees s b p q = (near far : Tree) → TreeStands p trees.near near → TreeStands p trees.far far → AreNear (height near) (height far) → child_of q b s ≡ trees.near
