-- the kinds of the segments, the pages and the blocks of a pool
use Rattle.std.specs.Prelude.{ℕ, ◌+◌, ◌-◌, ◌/◌, Bool, ◌&&◌, ◌==◌, if◌then◌else◌, List, slice_index, Option, Some, None}
use Rattle.shm_words.specs.{declared.geometry.Geometry.Geometry, Layout.{segments, pages, bodies}}
use Rattle.shm_graph.specs.{declared.spot.Spot.TheVariants.Head, Spots.{see, spot_at, same_spot, classes_in}}
use Rattle.shm_graph.specs.Blocks.{headers}
use Rattle.shm_audit.specs.Tallies.{count_in}

-- the owner of a segment, by its number and one, and 0 where it is nobody's
abbrev pub owner_kind : Geometry → List ℕ → ℕ → Option ℕ
owner_kind g ws s = Some (slice_index ws (segments g + s))

-- the class of a page, where pages are numbered through all segments
abbrev pub page_kind : Geometry → List ℕ → ℕ → Option ℕ
page_kind g ws p = Some (slice_index ws (pages g + p))

-- the class of the page in which an address is
abbrev pub class_near : Geometry → List ℕ → ℕ → ℕ
class_near g ws a = slice_index ws (pages g + (a - bodies g) / 128)

-- whether a free block begins at an address
abbrev pub is_free : Geometry → List ℕ → ℕ → Bool
is_free g ws a = same_spot (spot_at g (classes_in g ws) a) (Head a) && (see g ws (Head a) == 0)

-- the class of the live block that begins at an address, where one does
abbrev pub live_kind : Geometry → List ℕ → ℕ → Option ℕ
live_kind g ws a = if (headers (see g ws) a).live then Some (class_near g ws a) else None

-- the class of the free block that begins at an address, where one does
abbrev pub free_kind : Geometry → List ℕ → ℕ → Option ℕ
free_kind g ws a = if is_free g ws a then Some (class_near g ws a) else None

-- the count of the live block that begins at an address, where one does
abbrev pub count_kind : Geometry → List ℕ → ℕ → Option ℕ
count_kind g ws a = count_in (headers (see g ws) a)
