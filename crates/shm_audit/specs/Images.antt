-- the bytes of an image
use Rattle.std.specs.Prelude.{ℕ, ◌/◌, Bool, true, false, ◌==◌, List, ◌∷◌, ◌++◌, length, map, drop, codes, slice_index}
use Rattle.std.specs.{List.flat_map, Int.{w64, from_le_bytes, to_le_bytes}, Simd.first_chunks}
use Rattle.shm_words.specs.declared.geometry.Geometry.{Geometry}

-- what the image of a pool of format 2 (`true`) or of format 1 begins with
abbrev pub mark : Bool → List ℕ
mark false = codes "CXLSHM01"
mark true = codes "CXLSHM02"

-- the mark of its format, and then the number of clients, that of segments, and the words, each as 8 bytes with the lowest first
abbrev pub image_of : Geometry → List ℕ → List ℕ
image_of g ws = mark g.wide ++ flat_map (to_le_bytes w64) (g.clients ∷ g.segments ∷ ws)

-- what runs of 8 bytes say, each as a number with its lowest byte first
abbrev pub numbers : List (List ℕ) → List ℕ
numbers = map (from_le_bytes w64)

-- the numbers that bytes say, 8 bytes each
abbrev pub numbers_in : List ℕ → List ℕ
numbers_in bytes = numbers (first_chunks 8 (length bytes / 8) bytes)

-- whether a number is what its first 8 bytes say in an image of format 2 (`true`) or of format 1
abbrev pub marks : Bool → ℕ → Bool
marks wide seen = seen == from_le_bytes w64 (mark wide)

-- the sizes that an image announces, of format 2 where it begins with that mark
abbrev pub geometry_in : List ℕ → Geometry
geometry_in image = record { clients = slice_index (numbers_in image) 1; segments = slice_index (numbers_in image) 2; wide = marks true (slice_index (numbers_in image) 0) }

-- the words in an image
abbrev pub words_in : List ℕ → List ℕ
words_in image = drop 3 (numbers_in image)
