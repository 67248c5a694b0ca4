-- the places of a pool once its pages have their classes
use Rattle.std.specs.Prelude.{◌≡◌, ℕ, ◌+◌, ◌-◌, ◌/◌, ◌%◌, Bool, true, false, ◌&&◌, ◌==◌, if◌then◌else◌, List, slice_index}
use Rattle.shm_words.specs.declared.{geometry.Geometry.Geometry, place.Place.Place}
use Rattle.shm_words.specs.declared.place.Place.TheVariants as place
use Rattle.shm_words.specs.Layout as layout
use Rattle.shm_graph.specs.declared.spot.Spot.{Spot}
use Rattle.shm_graph.specs.declared.spot.Spot.TheVariants.{Spare, Status, Redo, RedoMore, Hold, Latch, Home, Era, Root, Tail, QueueHead, Slot, Segment, Page, Unused, Head, Tag, Body}

-- whether two spots are one
abbrev pub same_spot : Spot → Spot → Bool
same_spot Spare Spare = true
same_spot (Status c) (Status d) = c == d
same_spot (Redo c) (Redo d) = c == d
same_spot (RedoMore c) (RedoMore d) = c == d
same_spot (Hold c) (Hold d) = c == d
same_spot (Latch c) (Latch d) = c == d
same_spot (Home c) (Home d) = c == d
same_spot (Era i j) (Era k l) = (i == k) && (j == l)
same_spot (Root c k) (Root d l) = (c == d) && (k == l)
same_spot (Tail s r) (Tail t u) = (s == t) && (r == u)
same_spot (QueueHead s r) (QueueHead t u) = (s == t) && (r == u)
same_spot (Slot s r k) (Slot t u l) = (s == t) && ((r == u) && (k == l))
same_spot (Segment g) (Segment h) = g == h
same_spot (Page g p) (Page h q) = (g == h) && (p == q)
same_spot (Unused a) (Unused b) = a == b
same_spot (Head b) (Head d) = b == d
same_spot (Tag b) (Tag d) = b == d
same_spot (Body b i) (Body d j) = (b == d) && (i == j)
same_spot _ _ = false

-- the spot of the word at an address in a page of class k, where it is word i of the page; a page whose class is 0 has no blocks
abbrev pub block_spot : ℕ → ℕ → ℕ → Spot
block_spot k a i =
    if k == 0 then Unused a
    else if i % k == 0 then Head a
    else if i % k == 1 then Tag (a - 1)
    else Body (a - i % k) (i % k - 2)

-- the spot of a place that has this address, by the classes of the pages
abbrev pub spot_of : (ℕ → ℕ → ℕ) → ℕ → Place → Spot
spot_of class a place.Spare = Spare
spot_of class a (place.Status c) = Status c
spot_of class a (place.Redo c) = Redo c
spot_of class a (place.RedoMore c) = RedoMore c
spot_of class a (place.Hold c) = Hold c
spot_of class a (place.Latch c) = Latch c
spot_of class a (place.Home c) = Home c
spot_of class a (place.Era i j) = Era i j
spot_of class a (place.Root c k) = Root c k
spot_of class a (place.Tail s r) = Tail s r
spot_of class a (place.Head s r) = QueueHead s r
spot_of class a (place.Slot s r k) = Slot s r k
spot_of class a (place.Segment s) = Segment s
spot_of class a (place.Page s p) = Page s p
spot_of class a (place.Body s p i) = block_spot (class s p) a i

-- the words at the spots after a store at one of them
abbrev pub upd : (Spot → ℕ) → Spot → ℕ → Spot → ℕ
upd w p x q = if same_spot p q then x else w q

-- the spot at an address
unfoldable pub spot_at : Geometry → (ℕ → ℕ → ℕ) → ℕ → Spot
spot_at g class a = spot_of class a (layout.place_at g a)

-- the address of a spot
unfoldable pub spot_address : Geometry → Spot → ℕ
spot_address g Spare = layout.address g place.Spare
spot_address g (Status c) = layout.address g (place.Status c)
spot_address g (Redo c) = layout.address g (place.Redo c)
spot_address g (RedoMore c) = layout.address g (place.RedoMore c)
spot_address g (Hold c) = layout.address g (place.Hold c)
spot_address g (Latch c) = layout.address g (place.Latch c)
spot_address g (Home c) = layout.address g (place.Home c)
spot_address g (Era i j) = layout.address g (place.Era i j)
spot_address g (Root c k) = layout.address g (place.Root c k)
spot_address g (Tail s r) = layout.address g (place.Tail s r)
spot_address g (QueueHead s r) = layout.address g (place.Head s r)
spot_address g (Slot s r k) = layout.address g (place.Slot s r k)
spot_address g (Segment s) = layout.address g (place.Segment s)
spot_address g (Page s p) = layout.address g (place.Page s p)
spot_address g (Unused a) = a
spot_address g (Head b) = b
spot_address g (Tag b) = b + 1
spot_address g (Body b i) = b + 2 + i

-- the pool has this spot
abbrev pub IsAt : Geometry → (ℕ → ℕ → ℕ) → Spot → Type 0
IsAt g class p = spot_at g class (spot_address g p) ≡ p

-- a spot of a page's body
abbrev pub is_in_body : Spot → Bool
is_in_body (Unused a) = true
is_in_body (Head b) = true
is_in_body (Tag b) = true
is_in_body (Body b i) = true
is_in_body _ = false

-- the page of an address in a body, and its class
abbrev pub class_at : Geometry → (ℕ → ℕ → ℕ) → ℕ → ℕ
class_at g class a = class ((a - layout.bodies g) / 2048) ((a - layout.bodies g) / 128 % 16)

-- the segment of a block
abbrev pub segment_of : Geometry → ℕ → ℕ
segment_of g b = (b - layout.bodies g) / 2048

-- the classes of the pages in a list of words
abbrev pub classes_in : Geometry → List ℕ → ℕ → ℕ → ℕ
classes_in g ws s p = if layout.is_in g (place.Page s p) then slice_index ws (layout.address g (place.Page s p)) else 0

-- the word at a spot in a list of words; a spot that the pool doesn't have holds 0
unfoldable pub see : Geometry → List ℕ → Spot → ℕ
see g ws p = if same_spot (spot_at g (classes_in g ws) (spot_address g p)) p then slice_index ws (spot_address g p) else 0
