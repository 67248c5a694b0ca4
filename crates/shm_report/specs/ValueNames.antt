-- the names of value blocks
use Rattle.std.specs.{Prelude.{◌≡◌, ℕ, List, [], ◌∷◌, ◌++◌, eqb, if◌then◌else◌, Option, Some, None}, List.list_any}
use Rattle.std.specs.{Ordering.nat_cmp, BTreeMap.get}
use Rattle.shm_report.specs.{Report.value_number, declared.value_names.ValueNames.ValueNames}

-- a value block added behind those that are named, unless it is one of them
abbrev pub with_name : List ℕ → ℕ → List ℕ
with_name named v = if list_any (eqb v) named then named else named ++ v ∷ []

-- the number of a value block that is named
abbrev pub number_in : List ℕ → ℕ → Option ℕ
number_in named v = if list_any (eqb v) named then Some (value_number named v) else None

-- each value block that is named has its number, and no other has one
abbrev pub IsNumbered : ValueNames → Type 0
IsNumbered n = (v : ℕ) → get nat_cmp n.numbers v ≡ number_in n.blocks.items v
