-- who may store or exchange a word
use Rattle.std.specs.Prelude.{◌≡◌, ◌≢◌, ℕ, ◌+◌, ◌<◌, ◌≤◌, true, ◌⊎◌}
use Rattle.shm_words.specs.{declared.geometry.Geometry.Geometry, Headers.header_of, Tags.tag_refs}
use Rattle.shm_graph.specs.declared.{ask.Ask.{Ask, TheVariants.{Load, Store, Exchange}}, spot.Spot.Spot}
use Rattle.shm_graph.specs.declared.spot.Spot.TheVariants.{Status, Redo, RedoMore, Hold, Latch, Home, Era, Root, Tail, QueueHead, Slot, Segment, Page, Head, Tag, Body}
use Rattle.shm_graph.specs.{Spots.segment_of, Blocks.headers, Ops.slot_of, Views.{View, targets}}
use Rattle.shm_graph.specs.Held.{SlotOf, reach_of}

-- a free block of a segment of c
abbrev pub IsOwnFree : Geometry → (Spot → ℕ) → ℕ → ℕ → Type 0
IsOwnFree g w c b = (w (Head b) ≡ 0) × (w (Segment (segment_of g b)) ≡ c + 1)

-- a zero-count block of c
abbrev pub IsOwnDying : (Spot → ℕ) → ℕ → ℕ → Type 0
IsOwnDying w c b = ((headers w b).live ≡ true) × ((headers w b).count ≡ 0) × ((headers w b).client ≡ c)

-- the slot of c's step in progress, or a slot that c may use
abbrev pub IsOwnSlot : (Spot → ℕ) → View → Geometry → ℕ → Spot → Type 0
IsOwnSlot w v g c p = (slot_of (v.op c) ≡ p) ⊎ SlotOf g.wide c (λ b. header_of (w (Head b))) (λ b. w (Tag b)) (v.latch c) (λ s r. w (Tail s r)) (λ s r. w (QueueHead s r)) (reach_of (targets g w v) (λ s r. w (Tail s r)) (λ s r. w (QueueHead s r)) v.looks c) p

-- the word is c's to store: its own words; a latch that it holds, a segment that is its own and the pages of that without a class; slots; the words of its zero-count blocks and of free blocks of its segments
abbrev pub IsController : Geometry → (Spot → ℕ) → View → ℕ → Spot → Type 0
IsController g w v c (Status d) = d ≡ c
IsController g w v c (Redo d) = d ≡ c
IsController g w v c (RedoMore d) = d ≡ c
IsController g w v c (Hold d) = d ≡ c
IsController g w v c (Home d) = d ≡ c
IsController g w v c (Era i j) = i ≡ c
IsController g w v c (Root d k) = d ≡ c
IsController g w v c (Tail s r) = s ≡ c
IsController g w v c (QueueHead s r) = r ≡ c
IsController g w v c (Latch a) = w (Latch a) ≡ c + 1
IsController g w v c (Segment s) = w (Segment s) ≡ c + 1
IsController g w v c (Page s q) = (w (Segment s) ≡ c + 1) × (w (Page s q) ≡ 0)
IsController g w v c (Slot s r k) = IsOwnSlot w v g c (Slot s r k)
IsController g w v c (Head b) = IsOwnFree g w c b ⊎ IsOwnDying w c b
IsController g w v c (Tag b) = IsOwnFree g w c b ⊎ IsOwnDying w c b
IsController g w v c (Body b i) = IsOwnFree g w c b ⊎ ((IsOwnDying w c b × (i < tag_refs g.wide (w (Tag b)))) ⊎ IsOwnSlot w v g c (Body b i))
IsController g w v c _ = ⊥

-- what any identity may exchange: a segment or a latch that is nobody's, and the header of a live block whose count isn't 0
abbrev pub IsOpen : (Spot → ℕ) → Spot → Type 0
IsOpen w (Segment s) = w (Segment s) ≡ 0
IsOpen w (Latch a) = w (Latch a) ≡ 0
IsOpen w (Head b) = ((headers w b).live ≡ true) × ((headers w b).count ≢ 0)
IsOpen w _ = ⊥

-- the step stores or exchanges only what is its identity's, or open
abbrev pub IsAllowed : Geometry → (Spot → ℕ) → View → ℕ → Ask → Spot → Type 0
IsAllowed g w v c (Load at) p = Unit {0}
IsAllowed g w v c (Store at value) p = IsController g w v c p
IsAllowed g w v c (Exchange at from to) p = w p ≡ from → IsController g w v c p ⊎ IsOpen w p

-- before c overwrites a live header of another client, its own row shows that header's era
abbrev pub IsRowShown : (Spot → ℕ) → ℕ → Ask → Spot → Type 0
IsRowShown w c (Exchange at from to) (Head b) = w (Head b) ≡ from → (headers w b).live ≡ true → c ≢ (headers w b).client → (headers w b).era ≤ w (Era c (headers w b).client)
IsRowShown w c _ p = Unit {0}

-- the word of row i in column j may go from n to x: it isn't below n, and an own era is the next number
abbrev pub IsEraAfter : ℕ → ℕ → ℕ → ℕ → Type 0
IsEraAfter i j n x = (n ≤ x) × (i ≡ j → x ≡ n + 1)

-- the step lowers no word of a row, and if it stores an own era, that is one more than before
abbrev pub IsEraRaised : (Spot → ℕ) → Ask → Spot → Type 0
IsEraRaised w (Store at value) (Era i j) = IsEraAfter i j (w (Era i j)) value
IsEraRaised w (Exchange at from to) (Era i j) = w (Era i j) ≡ from → IsEraAfter i j (w (Era i j)) to
IsEraRaised w _ p = Unit {0}
