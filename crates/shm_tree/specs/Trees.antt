-- Trees of keys and numbers, without where their nodes lie, and what a change of one key makes of a tree.
use Rattle.std.specs.Prelude.{◌≡◌, ℕ, ◌+◌, ◌*◌, ◌^◌, ◌<◌, ◌≤◌, max, nat_lt, ◌==◌, if◌then◌else◌, Option, Some, None}

-- the empty tree, or a node of a key, its number, and the trees on its left and on its right
pub data Tree : Type 0 where
  Empty : Tree
  Node : (key number : ℕ) (left right : Tree) → Tree

abbrev pub height : Tree → ℕ
height Empty = 0
height (Node k n l r) = 1 + max (height l) (height r)

-- how many keys it has
abbrev pub size : Tree → ℕ
size Empty = 0
size (Node k n l r) = 1 + size l + size r

-- the number at a key: smaller keys stand on the left
abbrev pub found : ℕ → Tree → Option ℕ
found x Empty = None
found x (Node k n l r) = if x == k then Some n else if nat_lt x k then found x l else found x r

-- each key is below k
abbrev pub AreBelow : ℕ → Tree → Type 0
AreBelow k Empty = Unit {0}
AreBelow k (Node j n l r) = (j < k) × AreBelow k l × AreBelow k r

-- each key is above k
abbrev pub AreAbove : ℕ → Tree → Type 0
AreAbove k Empty = Unit {0}
AreAbove k (Node j n l r) = (k < j) × AreAbove k l × AreAbove k r

-- each key is above all on its left and below all on its right
abbrev pub IsSearch : Tree → Type 0
IsSearch Empty = Unit {0}
IsSearch (Node k n l r) = AreBelow k l × AreAbove k r × IsSearch l × IsSearch r

-- two heights differ by at most 1
pub record AreNear (a b : ℕ) : Type 0 where
  pub left : a ≤ b + 1
  pub right : b ≤ a + 1

-- the heights of the two trees of each node differ by at most 1
abbrev pub IsBalanced : Tree → Type 0
IsBalanced Empty = Unit {0}
IsBalanced (Node k n l r) = AreNear (height l) (height r) × IsBalanced l × IsBalanced r

-- ---- a node whose trees' heights differ by 2, balanced again

-- The left tree k', a, b is too high: its own left tree moves up, or, where b is higher, the node of b by two
abbrev pub double_left : (k n k' n' : ℕ) → Tree → Tree → Tree → Tree
double_left k n k' n' a Empty r = Node k' n' a (Node k n Empty r)
double_left k n k' n' a (Node m p c d) r = Node m p (Node k' n' a c) (Node k n d r)

abbrev pub from_left : (k n : ℕ) → Tree → Tree → Tree
from_left k n Empty r = Node k n Empty r
from_left k n (Node k' n' a b) r = if nat_lt (height a) (height b) then double_left k n k' n' a b r else Node k' n' a (Node k n b r)

-- The right tree k', a, b is too high
abbrev pub double_right : (k n k' n' : ℕ) → Tree → Tree → Tree → Tree
double_right k n k' n' l Empty b = Node k' n' (Node k n l Empty) b
double_right k n k' n' l (Node m p c d) b = Node m p (Node k n l c) (Node k' n' d b)

abbrev pub from_right : (k n : ℕ) → Tree → Tree → Tree
from_right k n l Empty = Node k n l Empty
from_right k n l (Node k' n' a b) = if nat_lt (height b) (height a) then double_right k n k' n' l a b else Node k' n' (Node k n l a) b

-- a node of two trees whose heights may differ by 2
unfoldable pub joined : (k n : ℕ) → Tree → Tree → Tree
joined k n l r =
    if nat_lt (height r + 1) (height l) then from_left k n l r
    else if nat_lt (height l + 1) (height r) then from_right k n l r
    else Node k n l r

-- ---- changes

-- with the number y at the key x
abbrev pub inserted : (x y : ℕ) → Tree → Tree
inserted x y Empty = Node x y Empty Empty
inserted x y (Node k n l r) =
    if x == k then Node x y l r
    else if nat_lt x k then joined k n (inserted x y l) r
    else joined k n l (inserted x y r)

-- the least key of a node with the left tree l, and its number
abbrev pub least_key : (k n : ℕ) → Tree → ℕ
least_key k n Empty = k
least_key k n (Node j m l r) = least_key j m l

abbrev pub least_number : (k n : ℕ) → Tree → ℕ
least_number k n Empty = n
least_number k n (Node j m l r) = least_number j m l

-- a node without its least key
abbrev pub without_least : (k n : ℕ) → Tree → Tree → Tree
without_least k n Empty r = r
without_least k n (Node j m a b) r = joined k n (without_least j m a b) r

-- what two trees leave whose node is taken out: the next greater key comes to stand there
abbrev pub merged : Tree → Tree → Tree
merged l Empty = l
merged l (Node k n a b) = joined (least_key k n a) (least_number k n a) l (without_least k n a b)

-- without the key x
abbrev pub removed : (x : ℕ) → Tree → Tree
removed x Empty = Empty
removed x (Node k n l r) =
    if x == k then merged l r
    else if nat_lt x k then joined k n (removed x l) r
    else joined k n l (removed x r)

-- ---- what is promised of a change

-- what the number at each key is once that at x is y, or none
abbrev pub found_with : (x : ℕ) → Option ℕ → Tree → ℕ → Option ℕ
found_with x y t z = if z == x then y else found z t

-- u is a balanced search tree whose map is that of t with y at x
pub record IsChanged (x : ℕ) (y : Option ℕ) (t u : Tree) : Type 0 where
  pub search : IsSearch u
  pub balanced : IsBalanced u
  pub map : (z : ℕ) → found z u ≡ found_with x y t z

abbrev pub InsertsWell : Type 0
InsertsWell = (x y : ℕ) (t : Tree) → IsSearch t → IsBalanced t → IsChanged x (Some y) t (inserted x y t) × (height t ≤ height (inserted x y t)) × (height (inserted x y t) ≤ height t + 1)

abbrev pub RemovesWell : Type 0
RemovesWell = (x : ℕ) (t : Tree) → IsSearch t → IsBalanced t → IsChanged x None t (removed x t) × (height (removed x t) ≤ height t) × (height t ≤ height (removed x t) + 1)

-- of a balanced tree of n keys and height h, 2^h is at most (n + 1)^2
abbrev pub IsLow : Type 0
IsLow = (t : Tree) → IsBalanced t → 2 ^ height t ≤ (size t + 1) * (size t + 1)
