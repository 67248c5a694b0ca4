-- what the exchange of a header that raises a block needs of the memo of its identity
use Rattle.std.specs.{Prelude.{◌≡◌, ◌≢◌, ℕ, ◌+◌, ◌^◌, ◌<◌, ◌≤◌, Bool, true, false}, List.Contains}
use Rattle.shm_words.specs.{declared.{geometry.Geometry.Geometry, header.Header.Header}, Headers.header_of}
use Rattle.shm_graph.specs.declared.{spot.Spot.{Spot, TheVariants.{Home, Era, Body}}, memo.First.TheVariants.Begun}
use Rattle.shm_graph.specs.declared.{memo.{Op.TheVariants.Up, Memo.Memo}, table.Part.{Part, TheVariants.Table}}
use Rattle.shm_graph.specs.{Spots.upd, Ops.{cover, Cover.On}, Tables.contents_of, Views.{View, own_word, targets}}
use Rattle.shm_graph.specs.{Held.{PartTie, is_loose, is_slot}, Reach.is_reached, Chains.part_set}
use Rattle.kind_parts.specs.Conditions.{IsHere}

-- the row of c shows the era of this header, unless the header is c's own
abbrev pub OwnRowShows : ℕ → Memo → Header → Type 0
OwnRowShows c m h = c ≢ h.client → h.era ≤ own_word m.own (Era c h.client)

-- a step of c begins to raise a block in reach, whose header becomes `to`; in a pool for tables a block that is to be sent is a value block
pub record MayRaise (c : ℕ) (m : Memo) (p : Spot) (b e from to : ℕ) : Type 0 where
  pub here : IsHere m
  pub op : m.op ≡ Up Begun p b e
  pub reach : is_reached c m b ≡ true
  pub small : to < 2 ^ 64
  pub new : header_of to ≡ record { live = true; client = c; count = (header_of from).count + 1; era = e }
  pub shows : OwnRowShows c m (header_of from)
  pub queued : is_loose m.part ≡ false → is_slot p ≡ true → Contains m.values b

-- in a pool for tables a partition is read from homes and from words of blocks
abbrev pub is_read : Part → Spot → Bool
is_read (Table chains) (Home d) = true
is_read (Table chains) (Body b i) = true
is_read part p = false

-- where the slot is one that the partition is read from, the partition that the memo has once it is made x is the one that the new targets hold
pub record IsReparted (g : Geometry) (w : Spot → ℕ) (v : View) (c : ℕ) (m : Memo) (p : Spot) (x : ℕ) : Type 0 where
  pub tie : is_read m.part p ≡ true → PartTie (contents_of g.wide w (upd (targets g w v) p x)) c (upd (targets g w v) p x (Home c)) (part_set m.known c (cover (On p x) (Home c) (own_word m.own (Home c))) p x m.part)
