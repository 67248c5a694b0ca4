-- the words of a redo record, in format 2 (`true`) and in format 1
use Rattle.std.specs.Prelude.{ℕ, ◌+◌, ◌*◌, ◌/◌, ◌%◌, ◌^◌, ◌<◌, Bool, true, false, not, ◌&&◌, ◌==◌, nat_lt, if◌then◌else◌, Option, Some, None}
use Rattle.shm_words.specs.{declared.redo.Redo.{Redo, TheVariants.{Idle, Up, Down, Change}}, Layout.place_limit}

abbrev pub odd_bit : Bool → ℕ
odd_bit true = 2 ^ 60
odd_bit false = 0

-- The first word. Bits 61 to 63 kind, bit 60 odd. Format 1: bits 40 to 59 slot, bits 20 to 39 before, bits 0 to 19 after. Format 2: bits 24 to 47 slot, bits 0 to 23 after
abbrev pub fields : Bool → ℕ → Bool → ℕ → ℕ → ℕ → ℕ
fields false kind odd slot before after = kind * 2 ^ 61 + odd_bit odd + slot * 2 ^ 40 + before * 2 ^ 20 + after
fields true kind odd slot before after = kind * 2 ^ 61 + odd_bit odd + slot * 2 ^ 24 + after

unfoldable pub redo_first : Bool → Redo → ℕ
redo_first wide Idle = 0
redo_first wide (Up slot block) = fields wide 1 false slot 0 block
redo_first wide (Down slot block) = fields wide 2 false slot block 0
redo_first wide (Change odd slot before after) = fields wide 3 odd slot before after

-- the second word: format 2 has `before` there, format 1 has no such word
abbrev pub second_of : Bool → ℕ → ℕ
second_of false before = 0
second_of true before = before

abbrev pub redo_second : Bool → Redo → ℕ
redo_second wide Idle = 0
redo_second wide (Up slot block) = 0
redo_second wide (Down slot block) = second_of wide block
redo_second wide (Change odd slot before after) = second_of wide before

-- the record with each place brought into range
abbrev pub fitted : Bool → Redo → Redo
fitted wide Idle = Idle
fitted wide (Up slot block) = Up (slot % place_limit wide) (block % place_limit wide)
fitted wide (Down slot block) = Down (slot % place_limit wide) (block % place_limit wide)
fitted wide (Change odd slot before after) = Change odd (slot % place_limit wide) (before % place_limit wide) (after % place_limit wide)

-- the words of a record, whose places are brought into range
abbrev pub first_word : Bool → Redo → ℕ
first_word wide r = redo_first wide (fitted wide r)

abbrev pub second_word : Bool → Redo → ℕ
second_word wide r = redo_second wide (fitted wide r)

-- the fields of the words of a redo record; the kind and the bit odd lie alike in both formats
abbrev pub kind_of : ℕ → ℕ
kind_of w = w / 2 ^ 61

abbrev pub odd_of : ℕ → Bool
odd_of w = w / 2 ^ 60 % 2 == 1

abbrev pub slot_of : Bool → ℕ → ℕ
slot_of false w = w / 2 ^ 40 % 2 ^ 20
slot_of true w = w / 2 ^ 24 % 2 ^ 24

abbrev pub before_of : Bool → ℕ → ℕ → ℕ
before_of false w x = w / 2 ^ 20 % 2 ^ 20
before_of true w x = x

abbrev pub after_of : Bool → ℕ → ℕ
after_of false w = w % 2 ^ 20
after_of true w = w % 2 ^ 24

-- the bits that no field has are 0
abbrev pub is_tidy : Bool → ℕ → ℕ → Bool
is_tidy false w x = true
is_tidy true w x = (w / 2 ^ 48 % 2 ^ 12 == 0) && nat_lt x (2 ^ 24)

unfoldable pub redo_of : Bool → ℕ → ℕ → Option Redo
redo_of wide w x =
    if not (is_tidy wide w x) then None
    else if (w == 0) && (before_of wide w x == 0) then Some Idle
    else if (kind_of w == 1) && not (odd_of w) && (before_of wide w x == 0) then Some (Up (slot_of wide w) (after_of wide w))
    else if (kind_of w == 2) && not (odd_of w) && (after_of wide w == 0) then Some (Down (slot_of wide w) (before_of wide w x))
    else if kind_of w == 3 then Some (Change (odd_of w) (slot_of wide w) (before_of wide w x) (after_of wide w))
    else None

-- what has words
abbrev pub RedoFits : Bool → Redo → Type 0
RedoFits wide Idle = Unit {0}
RedoFits wide (Up slot block) = (slot < place_limit wide) × (block < place_limit wide)
RedoFits wide (Down slot block) = (slot < place_limit wide) × (block < place_limit wide)
RedoFits wide (Change odd slot before after) = (slot < place_limit wide) × (before < place_limit wide) × (after < place_limit wide)
