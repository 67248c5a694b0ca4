-- A node that is made again, with another tree on the side of a key.
use Rattle.std.specs.Prelude.{◌≡◌, ℕ, ◌+◌, ◌<◌, ◌≤◌, nat_lt, if◌then◌else◌, Option, None, Some}
use Rattle.shm_plain.specs.Pools.{Pool}
use Rattle.shm_tree.specs.{declared.node.{Content.Content, Side.{Side, TheVariants.{Left, Right}}}, Building.joined_by}
use Rattle.shm_tree.specs.{Keeping.{HasMade, child_of, other_side}, Sharing.{CountsTop, IsCount}}
use Rattle.shm_tree.specs.{Standing.{TreeStands, weight}, Trees.{Tree, Empty, Node, AreNear, height}}

-- the side of a node with the key k on which the key x stands
abbrev pub side_of : (x k : ℕ) → Side
side_of x k = if nat_lt x k then Left else Right

-- a content that was told, or this one
abbrev pub content_or : Option Content → Content → Content
content_or None c = c
content_or (Some d) c = d

-- a node made again with its own key and number, or with those that are told, where u stands on the side of the key x: balanced again
abbrev pub again : (x : ℕ) → Option Content → Tree → Tree → Tree
again x o Empty u = u
again x o (Node k n l r) u = joined_by (side_of x k) (content_or o (record { key = k; number = n })) u (if nat_lt x k then r else l)

-- at q there stands at b the node at `top` of p made again with the tree at `below`
abbrev pub StandsAgain : (x : ℕ) → Option Content → (top below b : ℕ) → Pool → Pool → Type 0
StandsAgain x o top below b p q = (t u : Tree) → TreeStands p top t → TreeStands p below u → TreeStands q b (again x o t u)

-- where the heights of that tree and of the one on the other side differ by at most 1, at most one block was made
abbrev pub IsCheapAt : (x : ℕ) (top below : ℕ) → Pool → Pool → Type 0
IsCheapAt x top below p q =
    (k n : ℕ) (l r u : Tree) → TreeStands p top (Node k n l r) → TreeStands p below u → AreNear (height u) (height (if nat_lt x k then r else l)) → HasMade 1 p q

-- one of its blocks is another one than those of the tree at `below` and of the one on the other side, which isn't the higher one by 2
abbrev pub WeighsAgain : (x : ℕ) → Option Content → (top below b : ℕ) → Pool → Pool → Type 0
WeighsAgain x o top below b p q =
    (f : ℕ → ℕ) (k n : ℕ) (l r u : Tree) → IsCount f → TreeStands p top (Node k n l r) → TreeStands p below u
    → (height (if nat_lt x k then r else l) + 1 < height u → CountsTop f p (other_side (side_of x k)) below) → height (if nat_lt x k then r else l) ≤ height u + 1
    → weight f q b (again x o (Node k n l r) u) ≤ 1 + weight f p below u + weight f p (child_of p top (other_side (side_of x k))) (if nat_lt x k then r else l)

-- where the heights differ by at most 1, the tree at `below` is a child of the node at b
abbrev pub IsOverAt : (x : ℕ) (top below b : ℕ) → Pool → Pool → Type 0
IsOverAt x top below b p q =
    (k n : ℕ) (l r u : Tree) → TreeStands p top (Node k n l r) → TreeStands p below u → AreNear (height u) (height (if nat_lt x k then r else l)) → child_of q b (side_of x k) ≡ below
