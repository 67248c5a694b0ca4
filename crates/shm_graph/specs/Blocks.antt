-- blocks: free and live
use Rattle.std.specs.Prelude.{◌≡◌, ℕ, true}
use Rattle.shm_words.specs.{declared.{geometry.Geometry.Geometry, header.Header.Header}, Headers.header_of}
use Rattle.shm_graph.specs.{declared.spot.Spot.{Spot, TheVariants.{Page, Head}}, Spots.spot_at}

-- the classes of the pages, and the headers of the blocks
abbrev pub classes : (Spot → ℕ) → ℕ → ℕ → ℕ
classes w s p = w (Page s p)

abbrev pub headers : (Spot → ℕ) → ℕ → Header
headers w b = header_of (w (Head b))

-- a block begins at this address of a page that has a class
abbrev pub IsBlock : Geometry → (ℕ → ℕ → ℕ) → ℕ → Type 0
IsBlock g class b = spot_at g class b ≡ Head b

-- a block is free where its header word is 0
abbrev pub IsFree : Geometry → (Spot → ℕ) → ℕ → Type 0
IsFree g w b = IsBlock g (classes w) b × (w (Head b) ≡ 0)

-- a block is live where its header says so
abbrev pub IsLive : (ℕ → Header) → ℕ → Type 0
IsLive head b = (head b).live ≡ true
