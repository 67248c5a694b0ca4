-- what a search for a key says of maps: of the own partition, and in a held state of that of the author
use Rattle.std.proofs.Common.{◌≡◌, ℕ, ◌%◌, false, List, ◌∷◌, ◌++◌, Some}
use Rattle.std.specs.List.{Contains}
use Rattle.shm_graph.specs.declared.{memo.Memo.Memo, spot.Spot.TheVariants.{Home, Body}, table.{Entry.Entry, Part.Part}}
use Rattle.shm_graph.specs.Held.{is_loose}
use Rattle.kind_parts.specs.Reparting.{chain_in, map_in}
use Rattle.shm_table.specs.Find.{Control.Passed, AreOthers, IsChainRead, IsLook}

-- ---- the author's

-- a partition has a key at this entry
pub record HasKey (o : Part) (key entry : ℕ) : Type 0 where
  pub e : Entry
  pub others : List Entry
  pub after : List Entry
  pub chain : chain_in o (key % 16) ≡ others ++ e ∷ after
  pub block : e.block ≡ entry
  pub map : map_in o key ≡ Some (e.number, e.value)

-- under the latch of a the memo shows a chain that was read up to an entry, which has the key
pub record HasRead (a : ℕ) (r : Memo) (key entry : ℕ) : Type 0 where
  pub home : ℕ
  pub passed : List Passed
  pub latch : r.latch ≡ Some a
  pub table : is_loose r.part ≡ false
  pub look : IsLook r (Home a) home
  pub chain : IsChainRead r home (key % 16) passed entry
  pub others : AreOthers key passed
  pub known : Contains r.known (record { spot = Body entry 2; value = key })
