-- what is at fault in an image
use Rattle.std.specs.Prelude.{ℕ, zero, suc, ◌+◌, ◌*◌, Bool, true, false, not, ◌&&◌, ◌||◌, ◌==◌, nat_lt, nat_le, if◌then◌else◌, List, length, slice_index, Option, Some, None, option_map}
use Rattle.std.specs.Option.{option_or}
use Rattle.shm_words.specs.declared.{geometry.Geometry.Geometry, tag.Tag.Tag as ATag}
use Rattle.shm_words.specs.{Layout.{segments_most, total_of}, Tags.tag_of}
use Rattle.shm_graph.specs.{declared.spot.Spot.{Spot, TheVariants.{Page, Head, Tag}}, Spots.{see, spot_at, class_at}}
use Rattle.shm_graph.specs.{Blocks.{classes, headers}, References.references}
use Rattle.shm_audit.specs.{declared.fault.ImageFault.ImageFault, Images.{marks, numbers_in, geometry_in, words_in}}
use Rattle.shm_audit.specs.declared.fault.ImageFault.TheVariants as fault

-- the least number below n that passes the test
abbrev pub least_below : ℕ → (ℕ → Bool) → Option ℕ
least_below zero test = None
least_below (suc n) test = option_or (least_below n test) (if test n then Some n else None)

-- a page word is 0 or a class
abbrev pub is_page_word : ℕ → Bool
is_page_word k = (k == 0) || ((k == 4) || ((k == 8) || ((k == 16) || (k == 32))))

-- the word of a page that is neither 0 nor a class
abbrev pub is_bad_page : Geometry → (Spot → ℕ) → Spot → Bool
is_bad_page g w (Page s p) = not (is_page_word (w (Page s p)))
is_bad_page g w _ = false

-- a header that isn't 0, and isn't live or is of a client that the pool doesn't have
abbrev pub is_bad_header : Geometry → (Spot → ℕ) → Spot → Bool
is_bad_header g w (Head b) = not (w (Head b) == 0) && not ((headers w b).live && nat_lt (headers w b).client g.clients)
is_bad_header g w _ = false

-- whether this is the tag of a block of k words, by one of n clients
abbrev pub tag_suits : ℕ → ℕ → Option ATag → Bool
tag_suits n k None = false
tag_suits n k (Some t) = nat_le (2 + t.refs + t.plain) k && nat_lt t.author n

-- the tag of a live block that is none, doesn't fit in the block or is by an author that the pool doesn't have
abbrev pub is_bad_tag : Geometry → (Spot → ℕ) → Spot → Bool
is_bad_tag g w (Tag b) = (headers w b).live && not (tag_suits g.clients (class_at g (classes w) b) (tag_of g.wide (w (Tag b))))
is_bad_tag g w _ = false

-- whether a live block with a count above 0 begins at this address
abbrev pub is_counted : (Spot → ℕ) → ℕ → Bool
is_counted w b = (headers w b).live && nat_lt 0 (headers w b).count

-- a reference that names no such block
abbrev pub is_bad_reference : Geometry → (Spot → ℕ) → Spot → Bool
is_bad_reference g w p = not (references g.wide w p == 0) && not (is_counted w (references g.wide w p))

-- the least address whose spot passes the test
abbrev pub first_where : Geometry → (Spot → ℕ) → (Geometry → (Spot → ℕ) → Spot → Bool) → Option ℕ
first_where g w test = least_below (total_of g) (λ a. test g w (spot_at g (classes w) a))

-- the first fault of this kind, by the words and the address of the first that has it
abbrev pub first_fault : Geometry → List ℕ → (Geometry → (Spot → ℕ) → Spot → Bool) → (ℕ → ℕ → ImageFault) → Option ImageFault
first_fault g ws test kind = option_map (λ a. kind a (slice_index ws a)) (first_where g (see g ws) test)

-- the first fault in the words of a pool, if there is one: kind by kind, and in each kind by address
abbrev pub words_fault_of : Geometry → List ℕ → Option ImageFault
words_fault_of g ws =
    option_or (first_fault g ws is_bad_page fault.BadPage)
    (option_or (first_fault g ws is_bad_header fault.BadHeader)
    (option_or (first_fault g ws is_bad_tag fault.BadTag)
    (first_fault g ws is_bad_reference fault.BadRef)))

-- how many bytes the image of a pool has
abbrev pub image_len : Geometry → ℕ
image_len g = 24 + 8 * total_of g

-- whether a pool of this format may have so many clients and segments
abbrev pub is_size : Geometry → Bool
is_size g = (nat_le 1 g.clients && nat_le g.clients 16) && (nat_le 1 g.segments && nat_le g.segments (segments_most g.wide))

-- what is wrong with the length of an image or with its first 24 bytes, if anything is
abbrev pub frame_fault_of : List ℕ → Option ImageFault
frame_fault_of image =
    if nat_lt (length image) 24 then Some (fault.Short (length image))
    else if not (marks false (slice_index (numbers_in image) 0) || marks true (slice_index (numbers_in image) 0)) then Some (fault.Magic (slice_index (numbers_in image) 0))
    else if not (is_size (geometry_in image)) then Some (fault.Geometry (geometry_in image).clients (geometry_in image).segments)
    else if not (length image == image_len (geometry_in image)) then Some (fault.Length (length image) (image_len (geometry_in image)))
    else None

-- the first fault of an image, if it has one
abbrev pub image_fault_of : List ℕ → Option ImageFault
image_fault_of image = option_or (frame_fault_of image) (words_fault_of (geometry_in image) (words_in image))
