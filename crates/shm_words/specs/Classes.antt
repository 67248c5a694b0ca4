-- the size classes of blocks
use Rattle.std.specs.Prelude.{◌≡◌, ℕ, ◌+◌, ◌≤◌, nat_lt, if◌then◌else◌, ◌⊎◌}

-- how many words a block may have
abbrev pub IsClass : ℕ → Type 0
IsClass k = (k ≡ 4) ⊎ ((k ≡ 8) ⊎ ((k ≡ 16) ⊎ (k ≡ 32)))

-- the class of the blocks with these numbers of reference and plain words
abbrev pub class_for : ℕ → ℕ → ℕ
class_for refs plain = if nat_lt (refs + plain) 3 then 4 else if nat_lt (refs + plain) 7 then 8 else if nat_lt (refs + plain) 15 then 16 else 32

-- k is the least class with room for a header, a tag and these words
pub record IsLeastClass (refs plain k : ℕ) : Type 0 where
  pub class : IsClass k
  pub room : 2 + refs + plain ≤ k
  pub least : (j : ℕ) → IsClass j → 2 + refs + plain ≤ j → k ≤ j
