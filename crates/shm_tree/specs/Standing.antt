-- Trees that stand in the words of a pool: their nodes are blocks.
use Rattle.std.specs.Prelude.{◌≡◌, ◌≢◌, ℕ, ◌+◌, true}
use Rattle.shm_words.specs.{Headers.header_of, Tags.{tag_plain, tag_refs}}
use Rattle.shm_graph.specs.{declared.spot.Spot.{Spot, TheVariants.{Body, Head, Tag}}, Spots.see}
use Rattle.shm_plain.specs.Pools.{Pool}
use Rattle.shm_tree.specs.Trees.{Tree, Empty, Node, height, IsBalanced, IsSearch}

-- the word of a pool at a spot
abbrev pub word_of : Pool → Spot → ℕ
word_of p s = see p.start.geometry p.words s

-- a live block of two reference words and three plain words: a key, its number and a height
pub record IsNode (p : Pool) (b k n h : ℕ) : Type 0 where
  pub some : b ≢ 0
  pub live : (header_of (word_of p (Head b))).live ≡ true
  pub refs : tag_refs p.start.geometry.wide (word_of p (Tag b)) ≡ 2
  pub plain : tag_plain p.start.geometry.wide (word_of p (Tag b)) ≡ 3
  pub key : word_of p (Body b 2) ≡ k
  pub number : word_of p (Body b 3) ≡ n
  pub height : word_of p (Body b 4) ≡ h

-- the tree stands at the block b: 0 for the empty one, and otherwise a node whose reference words name the trees on its left and on its right
abbrev pub TreeStands : Pool → ℕ → Tree → Type 0
TreeStands p b Empty = b ≡ 0
TreeStands p b (Node k n l r) = IsNode p b k n (height (Node k n l r)) × TreeStands p (word_of p (Body b 0)) l × TreeStands p (word_of p (Body b 1)) r

-- a balanced search tree stands at b
pub record IsTree (p : Pool) (b : ℕ) (t : Tree) : Type 0 where
  pub stands : TreeStands p b t
  pub search : IsSearch t
  pub balanced : IsBalanced t

-- of the nodes of the tree that stands at b, how many f counts by their blocks
abbrev pub weight : (f : ℕ → ℕ) → Pool → ℕ → Tree → ℕ
weight f p b Empty = 0
weight f p b (Node k n l r) = f b + weight f p (word_of p (Body b 0)) l + weight f p (word_of p (Body b 1)) r
