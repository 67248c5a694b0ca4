-- What calls keep of nodes and trees, and what they make of them.
use Rattle.std.specs.{Prelude.{◌≡◌, ◌≢◌, ℕ, ◌<◌, ◌≤◌, ◌⊎◌, Bool, true, false, List, length}, List.{Contains, filter}}
use Rattle.shm_words.specs.Headers.{header_of}
use Rattle.shm_graph.specs.{declared.spot.Spot.TheVariants.{Body, Head}, Events.{Event, Alloc}}
use Rattle.shm_plain.specs.{Calls.Did, Pools.{Pool, memo_of}}
use Rattle.shm_count.specs.{declared.answer.Made.Made, Roots.root_word}
use Rattle.shm_tree.specs.declared.node.{Content.Content, Pair.Pair, Side.{Side, TheVariants.{Left, Right}}}
use Rattle.shm_tree.specs.{Standing.{IsNode, TreeStands, word_of}, Trees.{Tree, Empty, Node}}
use Rattle.shm_tree.specs.Working.{AreSameRoots, IsRooted}

-- ---- sides

-- the reference word of a node that names the child on a side
abbrev pub side_word : Side → ℕ
side_word Left = 0
side_word Right = 1

abbrev pub other_side : Side → Side
other_side Left = Right
other_side Right = Left

-- a node of two trees, of which the first is on this side
abbrev pub node_by : Side → Content → Tree → Tree → Tree
node_by Left c near far = Node c.key c.number near far
node_by Right c near far = Node c.key c.number far near

-- the word that names the child of a node on a side
abbrev pub child_of : Pool → ℕ → Side → ℕ
child_of p b s = word_of p (Body b (side_word s))

-- ---- nodes and trees

-- a node is at this block
abbrev pub HasNode : Pool → ℕ → Type 0
HasNode p b = (k n h : ℕ) × IsNode p b k n h

-- a tree stands at this block, or it is none
abbrev pub HasTree : Pool → ℕ → Type 0
HasTree p b = (t : Tree) × TreeStands p b t

-- the block x is a node of the tree that stands at b
abbrev pub IsPart : Pool → ℕ → ℕ → Tree → Type 0
IsPart p x b Empty = ⊥
IsPart p x b (Node k n l r) = (x ≡ b) ⊎ (IsPart p x (word_of p (Body b 0)) l ⊎ IsPart p x (word_of p (Body b 1)) r)

-- a node that was at a block is there as it was
pub record KeepsNode (p q : Pool) (b k n h : ℕ) : Type 0 where
  pub node : IsNode q b k n h
  pub left : word_of q (Body b 0) ≡ word_of p (Body b 0)
  pub right : word_of q (Body b 1) ≡ word_of p (Body b 1)

-- every node is as it was
abbrev pub KeepsNodes : Pool → Pool → Type 0
KeepsNodes p q = (b k n h : ℕ) → IsNode p b k n h → KeepsNode p q b k n h

-- every tree stands where it stood
abbrev pub KeepsTrees : Pool → Pool → Type 0
KeepsTrees p q = (b : ℕ) (t : Tree) → TreeStands p b t → TreeStands q b t

-- ---- live blocks

abbrev pub is_live : Pool → ℕ → Bool
is_live p b = (header_of (word_of p (Head b))).live

-- the same blocks are live
abbrev pub AreSameLives : Pool → Pool → Type 0
AreSameLives p q = (b : ℕ) → is_live q b ≡ is_live p b

-- and but for this one
abbrev pub AreOtherLives : ℕ → Pool → Pool → Type 0
AreOtherLives x p q = (b : ℕ) → b ≢ x → is_live q b ≡ is_live p b

abbrev pub is_alloc : Event → Bool
is_alloc (Alloc c k b) = true
is_alloc e = false

-- how many blocks were made, those counted that were dropped again
abbrev pub made_in : List Event → ℕ
made_in es = length (filter is_alloc es)

-- the client came from p to q by itself, and made so many blocks at most
abbrev pub HasMade : ℕ → Pool → Pool → Type 0
HasMade n p q = (es : List Event) × Did 0 p q es × (made_in es ≤ n)

-- ---- what calls leave

-- nothing was done: nodes, trees, live blocks, zero-count blocks and roots are as they were
pub record IsStill (p q : Pool) : Type 0 where
  pub nodes : KeepsNodes p q
  pub trees : KeepsTrees p q
  pub lives : AreSameLives p q
  pub dying : (memo_of q 0).dying ≡ (memo_of p 0).dying
  pub roots : AreSameRoots p q
  pub made : HasMade 0 p q

-- an empty root names a block that is live
pub record IsShared (k b : ℕ) (p q : Pool) : Type 0 where
  pub rooted : IsRooted k b p q
  pub nodes : KeepsNodes p q
  pub trees : KeepsTrees p q
  pub lives : AreSameLives p q
  pub made : HasMade 0 p q

-- a block that wasn't live is, which a root names that was empty
pub record IsBorn (m : Made) (p q : Pool) : Type 0 where
  pub rooted : IsRooted m.root m.block p q
  pub fresh : is_live p m.block ≡ false
  pub live : is_live q m.block ≡ true
  pub nodes : KeepsNodes p q
  pub trees : KeepsTrees p q
  pub lives : AreOtherLives m.block p q
  pub made : HasMade 1 p q

-- it is a node of this content and height, and has no children
pub record IsMade (c : Content) (h : ℕ) (m : Made) (p q : Pool) : Type 0 where
  pub born : IsBorn m p q
  pub node : IsNode q m.block c.key c.number h
  pub left : word_of q (Body m.block 0) ≡ 0
  pub right : word_of q (Body m.block 1) ≡ 0

-- a node names a child on a side, and has its content and its other child still; trees of which it is no node stand still
pub record IsReferring (b : ℕ) (s : Side) (x : ℕ) (p q : Pool) : Type 0 where
  pub node : (k n h : ℕ) → IsNode p b k n h → IsNode q b k n h
  pub names : child_of q b s ≡ x
  pub other : child_of q b (other_side s) ≡ child_of p b (other_side s)
  pub nodes : (d k n h : ℕ) → d ≢ b → IsNode p d k n h → KeepsNode p q d k n h
  pub trees : (d : ℕ) (t : Tree) → (IsPart p b d t → ⊥) → TreeStands p d t → TreeStands q d t
  pub lives : AreSameLives p q
  pub roots : AreSameRoots p q
  pub made : HasMade 0 p q

-- a node was made of two trees
pub record IsLinked (c : Content) (s : Side) (trees : Pair) (m : Made) (p q : Pool) : Type 0 where
  pub born : IsBorn m p q
  pub near : child_of q m.block s ≡ trees.near
  pub far : child_of q m.block (other_side s) ≡ trees.far
  pub stands : (near far : Tree) → TreeStands p trees.near near → TreeStands p trees.far far → TreeStands q m.block (node_by s c near far)

-- The work stopped: nodes, live blocks and roots that named a block are as they were, and at most n blocks were made
pub record HasGrown (n : ℕ) (p q : Pool) : Type 0 where
  pub nodes : KeepsNodes p q
  pub trees : KeepsTrees p q
  pub lives : (b : ℕ) → is_live p b ≡ true → is_live q b ≡ true
  pub roots : (k : ℕ) → root_word 0 (memo_of p 0) k ≢ 0 → root_word 0 (memo_of q 0) k ≡ root_word 0 (memo_of p 0) k
  pub made : HasMade n p q

-- A root is empty, and what only it named is gone: each tree that another root names stands still, no block came to be live, and a node that is live and has references is as it was
pub record IsDropped (k : ℕ) (p q : Pool) : Type 0 where
  pub trees : (j x : ℕ) (t : Tree) → j ≢ k → j < 16 → root_word 0 (memo_of p 0) j ≡ x → TreeStands p x t → TreeStands q x t
  pub lives : (b : ℕ) → is_live q b ≡ true → is_live p b ≡ true
  pub nodes : (b i n h : ℕ) → is_live q b ≡ true → (Contains (memo_of q 0).dying b → ⊥) → IsNode p b i n h → KeepsNode p q b i n h
  pub made : HasMade 0 p q
