-- the tag word of a block, in format 2 (`true`) and in format 1
use Rattle.std.specs.Prelude.{ℕ, ◌+◌, ◌*◌, ◌/◌, ◌%◌, ◌^◌, ◌<◌, ◌≤◌, Bool, true, false, ◌&&◌, nat_lt, nat_le, if◌then◌else◌, Option, Some, None}
use Rattle.shm_words.specs.{declared.tag.Tag.Tag, Layout.place_limit}

-- The word of a tag. Format 1: bits 30 to 34 refs, bits 26 to 29 plain, bits 20 to 25 author, bits 0 to 19 link. Format 2: bits 34 to 38, 30 to 33, 24 to 29, 0 to 23
unfoldable pub tag_word : Bool → Tag → ℕ
tag_word false t = t.refs * 2 ^ 30 + t.plain * 2 ^ 26 + t.author * 2 ^ 20 + t.link
tag_word true t = t.refs * 2 ^ 34 + t.plain * 2 ^ 30 + t.author * 2 ^ 24 + t.link

-- the words of tags are below this number
abbrev pub tag_limit : Bool → ℕ
tag_limit false = 2 ^ 35
tag_limit true = 2 ^ 39

-- the fields of a word that is a tag
abbrev pub tag_refs : Bool → ℕ → ℕ
tag_refs false w = w / 2 ^ 30 % 32
tag_refs true w = w / 2 ^ 34 % 32

abbrev pub tag_plain : Bool → ℕ → ℕ
tag_plain false w = w / 2 ^ 26 % 16
tag_plain true w = w / 2 ^ 30 % 16

-- a tag without its link: in both formats the author is in the lowest bits, then the plain words, then the reference words
abbrev pub tag_shape : Bool → ℕ → ℕ
tag_shape false w = w / 2 ^ 20
tag_shape true w = w / 2 ^ 24

abbrev pub shape_author : ℕ → ℕ
shape_author s = s % 64

abbrev pub tag_author : Bool → ℕ → ℕ
tag_author wide w = shape_author (tag_shape wide w)

abbrev pub tag_link : Bool → ℕ → ℕ
tag_link false w = w % 2 ^ 20
tag_link true w = w % 2 ^ 24

-- the tag that a word is, if it is one
unfoldable pub tag_of : Bool → ℕ → Option Tag
tag_of wide w =
    if nat_lt w (tag_limit wide) && (nat_le (tag_refs wide w) 16 && nat_le (tag_plain wide w) 8)
    then Some (record { refs = tag_refs wide w; plain = tag_plain wide w; author = tag_author wide w; link = tag_link wide w })
    else None

-- the tags that have a word
pub record TagFits (wide : Bool) (t : Tag) : Type 0 where
  pub refs : t.refs ≤ 16
  pub plain : t.plain ≤ 8
  pub author : t.author < 64
  pub link : t.link < place_limit wide
