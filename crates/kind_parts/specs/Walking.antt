-- where a walk along a chain of the own partition is, and what stays so until an entry is linked
use Rattle.std.specs.Prelude.{◌≡◌, ◌≢◌, ℕ, ◌%◌, ◌<◌, Bool, true, false, eqb, ◌⊎◌, List, [], ◌∷◌, ◌++◌, map, Some, None}
use Rattle.std.specs.List.{list_any}
use Rattle.shm_graph.specs.declared.{spot.Spot.{Spot, TheVariants.{Home, Root, Body}}, memo.{Look.Look, Memo.Memo}}
use Rattle.shm_graph.specs.{declared.table.Entry.Entry, Held.is_loose, Reach.learnt, Tables.find}
use Rattle.shm_graph.specs.{Telling.{Role, Directory, Entry as AnEntry, role_in, roles}, Views.own_word}
use Rattle.kind_parts.specs.Reparting.{Sight, sight, chain_in, map_in, link_after, IsKnown, IsNew}

-- these entries begin at a block, or there are none and it is 0
abbrev pub Starts : List Entry → ℕ → Type 0
Starts [] at = at ≡ 0
Starts (e ∷ es) at = at ≡ e.block

-- A walk that looks for a key: the entries that it has passed don't have the key, and word p, which leads on from them, is known to name `at`, at which the entries begin that are left
pub record IsWalking (s : Sight) (key : ℕ) (p : Spot) (at : ℕ) (passed left : List Entry) : Type 0 where
  pub chain : chain_in s.part (key % 16) ≡ passed ++ left
  pub others : find key passed ≡ None
  pub link : p ≡ link_after s.home (key % 16) passed
  pub known : IsKnown s p at
  pub starts : Starts left at

-- a block is one of the looks, and was read in a role
abbrev pub is_looked : Memo → ℕ → Bool
is_looked m b = list_any (eqb b) (map (λ (k : Look). k.block) m.looks)

abbrev pub IsIn : Memo → Role → ℕ → Type 0
IsIn m role b = (role_in (roles m) b ≡ role) × (is_looked m b ≡ true)

-- Under the own latch a walk is at an entry of its directory's chain, or at its end; `first` is what the bucket's word is known to name, and p, the word that leads to the entry, is that word or the next word of one before
pub record IsSeeking (c : ℕ) (m : Memo) (key first : ℕ) (p : Spot) (at : ℕ) (passed left : List Entry) : Type 0 where
  pub latch : m.latch ≡ Some c
  pub table : is_loose m.part ≡ false
  pub some : own_word m.own (Home c) ≢ 0
  pub role : role_in (roles m) (own_word m.own (Home c)) ≡ Directory
  pub word : IsKnown (sight c m) (Body (own_word m.own (Home c)) (key % 16)) first
  pub next : first ≢ 0 → is_looked m first ≡ true
  pub walk : IsWalking (sight c m) key p at passed left
  pub here : at ≢ 0 → IsIn m AnEntry at
  pub lead : (p ≡ Body (own_word m.own (Home c)) (key % 16)) ⊎ ((d : ℕ) × (p ≡ Body d 0) × (d ≢ 0) × IsIn m AnEntry d)

-- what a load of a word of a table under its author's latch leaves: the word is known, and a reference that was read may be a look
pub record Reads (m m' : Memo) (d i x : ℕ) : Type 0 where
  pub latch : m'.latch ≡ m.latch
  pub part : m'.part ≡ m.part
  pub own : m'.own ≡ m.own
  pub op : m'.op ≡ m.op
  pub known : m'.known ≡ learnt (Body d i) x m.known
  pub looks : (m'.looks ≡ m.looks) ⊎ ((x ≢ 0) × (m'.looks ≡ m.looks ++ record { block = x; from = Body d i } ∷ []))

-- Under the own latch a walk has found no entry of a key in a partition that has a directory; its bucket's word is known to name `first`, which was read then
pub record IsVacant (c : ℕ) (m : Memo) (key first : ℕ) : Type 0 where
  pub latch : m.latch ≡ Some c
  pub table : is_loose m.part ≡ false
  pub some : own_word m.own (Home c) ≢ 0
  pub role : role_in (roles m) (own_word m.own (Home c)) ≡ Directory
  pub absent : map_in m.part key ≡ None
  pub word : IsKnown (sight c m) (Body (own_word m.own (Home c)) (key % 16)) first
  pub next : first ≢ 0 → is_looked m first ≡ true

-- root k has a block that is to be the entry of a key; its next word and its value word are known
pub record IsComing (wide : Bool) (c : ℕ) (m : Memo) (k b key next value : ℕ) : Type 0 where
  pub root : (k < 16) × (own_word m.own (Root c k) ≡ b) × (b ≢ 0)
  pub entry : IsNew wide c (sight c m) b key
  pub next_is : IsKnown (sight c m) (Body b 0) next
  pub value_is : IsKnown (sight c m) (Body b 1) value
