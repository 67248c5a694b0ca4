-- Trees that are built of trees that stand: what a call leaves that builds one, done or not.
use Rattle.std.specs.Prelude.{◌≡◌, ◌≢◌, ℕ, ◌<◌, Option, None, Some, Result, IfErr, IfSome, ◌==◌}
use Rattle.shm_graph.specs.References.{one_if, sum_below}
use Rattle.shm_plain.specs.Pools.{Pool, memo_of}
use Rattle.shm_count.specs.{declared.answer.Made.Made, Roots.root_word}
use Rattle.shm_tree.specs.declared.{balance.Plan.Plan, node.{Content.Content, Pair.Pair, Side.Side}}
use Rattle.shm_tree.specs.declared.{node.Side.TheVariants.{Left, Right}, hints.Hints.Hints, stop.Stop.Stop}
use Rattle.shm_tree.specs.{Causes.StopCause, Keeping.{HasMade, HasTree, node_by, other_side}, Spending.{DiesAfter, HasSpent}}
use Rattle.shm_tree.specs.{Standing.{TreeStands, weight}, Trees.{Tree, AreNear, from_left, from_right, height, joined}}
use Rattle.shm_tree.specs.Working.{DiedIn, IfAlive, IfRefused, IsReached, IsRooted, IsSameLatch, IsWorking, Went}

-- what a root names
abbrev pub root_block : Pool → ℕ → ℕ
root_block p k = root_word 0 (memo_of p 0) k

-- how many of the 16 roots are empty
unfoldable pub rooms : Pool → ℕ
rooms p = sum_below 16 (λ k. one_if (root_block p k == 0))

-- each tree that a root names stands where it stood
abbrev pub KeepsRooted : Pool → Pool → Type 0
KeepsRooted p q = (j : ℕ) (t : Tree) → j < 16 → TreeStands p (root_block p j) t → TreeStands q (root_block p j) t

-- each tree that a root names has the blocks that it had
abbrev pub KeepsBlocks : Pool → Pool → Type 0
KeepsBlocks p q = (f : ℕ → ℕ) (j : ℕ) (t : Tree) → j < 16 → TreeStands p (root_block p j) t → weight f q (root_block p j) t ≡ weight f p (root_block p j) t

-- The work stopped: what roots named they name still, and it stands, of the same blocks; at most n blocks were made
pub record IsCut (n : ℕ) (p q : Pool) : Type 0 where
  pub trees : KeepsRooted p q
  pub roots : (k : ℕ) → root_block p k ≢ 0 → root_block q k ≡ root_block p k
  pub blocks : KeepsBlocks p q
  pub made : HasMade n p q

-- A call that builds, in which n blocks are made at most, and c word steps go beside those for blocks that are torn down: what it leaves of the pool p and x word steps is the pool q and y
pub record Builds {T : Type 0} (hints : Hints) (n c : ℕ) (r : Result T Stop) (p q : Pool) (x y : ℕ) : Type 0 where
  pub went : Went p q x y
  pub working : IfAlive r (IsWorking q)
  pub latch : IfAlive r (IsSameLatch p q)
  pub refused : IfRefused r (IsCut n p q)
  pub spent : IfAlive r (HasSpent c p q x y)
  pub cause : IfErr r (λ e. StopCause hints p q e)
  pub died : IfErr r (λ e. DiedIn e p q y)
  pub late : DiesAfter c r p q x

-- a tree was built: a root that was empty names it, and no other root changed, nor the trees that they name, nor the blocks of those
pub record IsBuilt (n : ℕ) (m : Made) (p q : Pool) : Type 0 where
  pub rooted : IsRooted m.root m.block p q
  pub some : m.block ≢ 0
  pub trees : KeepsRooted p q
  pub blocks : KeepsBlocks p q
  pub made : HasMade n p q

-- a root is another than that of a tree, if there is one
abbrev pub IsOther : Option Made → ℕ → Type 0
IsOther None j = Unit {0}
IsOther (Some w) j = j ≢ w.root

-- the block of a tree, if there is one
abbrev pub block_of : Option Made → ℕ
block_of None = 0
block_of (Some w) = w.block

-- the root of a tree names it, and it stands
pub record IsHeld (p : Pool) (w : Made) : Type 0 where
  pub low : w.root < 16
  pub some : w.block ≢ 0
  pub names : root_block p w.root ≡ w.block
  pub tree : HasTree p w.block

-- a tree was built: a root that was empty names it; the root of the tree below, if there is one, is empty; no other root changed, and what they name stands, of the same blocks
pub record IsRebuilt (n : ℕ) (below : Option Made) (m : Made) (p q : Pool) : Type 0 where
  pub low : m.root < 16
  pub some : m.block ≢ 0
  pub empty : root_block p m.root ≡ 0
  pub names : root_block q m.root ≡ m.block
  pub left : IfSome below (λ w. root_block q w.root ≡ 0)
  pub others : (j : ℕ) → j ≢ m.root → IsOther below j → root_block q j ≡ root_block p j
  pub trees : (j : ℕ) (t : Tree) → j < 16 → IsOther below j → TreeStands p (root_block p j) t → TreeStands q (root_block p j) t
  pub blocks : (f : ℕ → ℕ) (j : ℕ) (t : Tree) → j < 16 → IsOther below j → TreeStands p (root_block p j) t → weight f q (root_block p j) t ≡ weight f p (root_block p j) t
  pub made : HasMade n p q

-- ---- the trees that are built

-- a node of two trees, the first of which is on this side and the other higher by 2, balanced again
abbrev pub from_far : Side → Content → Tree → Tree → Tree
from_far Left c near far = from_right c.key c.number near far
from_far Right c near far = from_left c.key c.number far near

-- a node of two trees whose heights may differ by 2, the first of which is on this side
abbrev pub joined_by : Side → Content → Tree → Tree → Tree
joined_by Left c near far = joined c.key c.number near far
joined_by Right c near far = joined c.key c.number far near

-- a tree stands at this block, or it is none, and it is in reach
abbrev pub IsAtHand : Pool → ℕ → Type 0
IsAtHand p b = HasTree p b × IsReached p b

-- at q there stands at b what comes of the two trees that stand at p
abbrev pub StandsOf : (Tree → Tree → Tree) → Pair → ℕ → Pool → Pool → Type 0
StandsOf f trees b p q = (near far : Tree) → TreeStands p trees.near near → TreeStands p trees.far far → TreeStands q b (f near far)

-- where the heights of two trees that stood differ by at most 1, at most one block was made
abbrev pub IsCheap : Pair → Pool → Pool → Type 0
IsCheap trees p q = (near far : Tree) → TreeStands p trees.near near → TreeStands p trees.far far → AreNear (height near) (height far) → HasMade 1 p q

-- a node of a node that was planned, and of the tree at far
abbrev pub StandsRaised : Content → Side → Plan → ℕ → ℕ → Pool → Pool → Type 0
StandsRaised top s below far b p q =
    (x y z : Tree) → TreeStands p below.trees.near x → TreeStands p below.trees.far y → TreeStands p far z → TreeStands q b (node_by s top (node_by s below.content x y) z)

-- a node of two nodes that were planned, the second as seen from the other side
abbrev pub StandsCrowned : Content → Side → Plan → Plan → ℕ → Pool → Pool → Type 0
StandsCrowned top s near far b p q =
    (x y z t : Tree) → TreeStands p near.trees.near x → TreeStands p near.trees.far y → TreeStands p far.trees.near z → TreeStands p far.trees.far t → TreeStands q b (node_by s top (node_by s near.content x y) (node_by (other_side s) far.content z t))

-- the far tree's far tree moved up
abbrev pub StandsTurned : Content → Side → Pair → ℕ → Pool → Pool → Type 0
StandsTurned c s trees b p q =
    (x y z : Tree) (d : Content) → TreeStands p trees.near x → TreeStands p trees.far (node_by s d y z) → TreeStands q b (node_by s d (node_by s c x y) z)

-- the node of the far tree's near tree moved up by two
abbrev pub StandsTurnedTwice : Content → Side → Pair → ℕ → Pool → Pool → Type 0
StandsTurnedTwice c s trees b p q =
    (x y z t : Tree) (d e : Content) → TreeStands p trees.near x → TreeStands p trees.far (node_by s d (node_by s e y z) t) → TreeStands q b (node_by s e (node_by s c x y) (node_by s d z t))
