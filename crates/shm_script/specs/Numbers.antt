-- Numbers in decimal, of any size, with one spelling each.
use Rattle.std.specs.Prelude.{ℕ, ◌+◌, ◌-◌, ◌*◌, ◌^◌, Bool, ◌&&◌, ◌||◌, not, List, [], ◌∷◌, length, Option, Some, None, slice_index, nat_lt, ◌==◌, if◌then◌else◌}
use Rattle.std.specs.Str.{all_ascii_digits}

-- the value of digits that follow those of n
abbrev pub value_after : ℕ → List ℕ → ℕ
value_after n [] = n
value_after n (digit ∷ digits) = value_after (n * 10 + (digit - 48)) digits

-- one byte, or several that don't begin with a zero
abbrev pub leads_well : List ℕ → Bool
leads_well word = length word == 1 || (not (length word == 0) && not (slice_index word 0 == 48))

-- digits, without a leading zero where there are two or more
abbrev pub is_numeral : List ℕ → Bool
is_numeral word = all_ascii_digits word && leads_well word

-- a number below 2^64; the ranges of all numbers end there, so that larger ones need not be told apart
abbrev pub small : ℕ → Option ℕ
small n = if nat_lt n (2 ^ 64) then Some n else None

-- the number that a word spells, where it spells one
unfoldable pub number_of : List ℕ → Option (Option ℕ)
number_of word = if is_numeral word then Some (small (value_after 0 word)) else None
