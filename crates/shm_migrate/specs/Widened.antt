-- the words that a pool of format 1 has in format 2
use Rattle.std.specs.Prelude.{ℕ, ◌+◌, true, ◌==◌, nat_lt, if◌then◌else◌, List, map, Option, Some, None}
use Rattle.std.specs.List.{range_with_len}
use Rattle.shm_words.specs.declared.{geometry.Geometry.Geometry, tag.Tag.Tag as ATag}
use Rattle.shm_words.specs.{Layout.{address, place_at, total_of}, Tags.{tag_of, tag_word}}
use Rattle.shm_graph.specs.declared.spot.Spot.{Spot}
use Rattle.shm_graph.specs.declared.spot.Spot.TheVariants.{Status, Hold, Latch, Home, Era, Root, Tail, QueueHead, Slot, Segment, Page, Head, Tag, Body}
use Rattle.shm_graph.specs.{declared.table.Entry.Entry, Spots.{spot_of, see}, Blocks.{classes, headers}}

-- the same sizes in format 2
abbrev pub wide_of : Geometry → Geometry
wide_of g = record { clients = g.clients; segments = g.segments; wide = true }

-- a reference names in format 2 what it named: 0 stays 0, and another one becomes the address in format 2 of the block that it names
abbrev pub moved : Geometry → ℕ → ℕ
moved g b = if b == 0 then 0 else address (wide_of g) (place_at g b)

-- what the tag of a block says, where the block is live
abbrev pub live_tag : Geometry → (Spot → ℕ) → ℕ → Option ATag
live_tag g w b = if (headers w b).live then tag_of g.wide (w (Tag b)) else None

-- the tag of a live block keeps its numbers and its author, and has the link 0
abbrev pub widened_tag : Option ATag → ℕ
widened_tag None = 0
widened_tag (Some t) = tag_word true (record { refs = t.refs; plain = t.plain; author = t.author; link = 0 })

-- word i behind the tag of a live block: a reference names what it named, a plain word stays, and a word behind these is 0
abbrev pub widened_body : Geometry → Option ATag → ℕ → ℕ → ℕ
widened_body g None i word = 0
widened_body g (Some t) i word = if nat_lt i t.refs then moved g word else if nat_lt i (t.refs + t.plain) then word else 0

-- the word in format 2 of what this spot is for; the spare word, the redo records and the pages without blocks hold 0
abbrev pub widened_at : Geometry → (Spot → ℕ) → Spot → ℕ
widened_at g w (Status c) = w (Status c)
widened_at g w (Hold c) = w (Hold c)
widened_at g w (Latch c) = w (Latch c)
widened_at g w (Home c) = moved g (w (Home c))
widened_at g w (Era i j) = w (Era i j)
widened_at g w (Root c k) = moved g (w (Root c k))
widened_at g w (Tail s r) = w (Tail s r)
widened_at g w (QueueHead s r) = w (QueueHead s r)
widened_at g w (Slot s r k) = moved g (w (Slot s r k))
widened_at g w (Segment s) = w (Segment s)
widened_at g w (Page s p) = w (Page s p)
widened_at g w (Head b) = w (Head b)
widened_at g w (Tag b) = widened_tag (live_tag g w b)
widened_at g w (Body b i) = widened_body g (live_tag g w b) i (w (Body b i))
widened_at g w _ = 0

-- the word at an address of format 2: that of the spot which the place of this address is in format 1
unfoldable pub widened_word : Geometry → (Spot → ℕ) → ℕ → ℕ
widened_word g w a = widened_at g w (spot_of (classes w) (address g (place_at (wide_of g) a)) (place_at (wide_of g) a))

-- all words of the pool in format 2, in order of address
unfoldable pub widened : Geometry → List ℕ → List ℕ
widened g ws = map (widened_word g (see g ws)) (range_with_len 0 (total_of (wide_of g)))

-- an entry of the table keeps its key and its number
abbrev pub moved_entry : Geometry → Entry → Entry
moved_entry g e = record { key = e.key; number = e.number; block = moved g e.block; value = moved g e.value }

abbrev pub moved_table : Geometry → (ℕ → ℕ → List Entry) → ℕ → ℕ → List Entry
moved_table g table c b = map (moved_entry g) (table c b)
