-- what machines over tables leave of the memo before them
pub mod Laws
use Rattle.std.specs.Prelude.{◌≡◌, ◌≢◌, ℕ, ◌+◌, ◌^◌, ◌-◌, ◌<◌, ◌≤◌, ◌==◌, ◌⊎◌, Bool, true, false, if◌then◌else◌, Some, None}
use Rattle.std.specs.List.{Contains}
use Rattle.shm_graph.specs.declared.{ask.Me.Me, memo.Memo.Memo, spot.Spot.{Spot, TheVariants.{Era, Hold, Home, Root}}}
use Rattle.shm_graph.specs.{Core.core, Held.{is_loose, is_slot}, Idle.IsIdle, Spots.same_spot, Views.own_word}
use Rattle.kind_parts.specs.Reparting.{sight, map_in, IsValue}
use Rattle.shm_count.specs.{Roots.root_word, Lasting.is_lasting, Tear.Memos.Knows}
use Rattle.shm_table.specs.declared.answer.PutFault.{PutFault, TheVariants.{EraSpent, RootsFull, Full, CountFull}}

-- ---- what stays

-- an own word that these machines may set: a root, the home, the hold word
abbrev pub is_set : Spot → Bool
is_set (Root c k) = true
is_set (Home c) = true
is_set (Hold c) = true
is_set p = false

-- The identity is between two calls again, and these are as they were: its queues, whether the pool is for tables, other own words, each root that named a block, what is known of head slots, and the number of each value block that a root named
pub record Keeps (c : ℕ) (m r : Memo) : Type 0 where
  pub idle : IsIdle c r
  pub sent : r.sent ≡ m.sent
  pub received : r.received ≡ m.received
  pub unsent : r.unsent ≡ m.unsent
  pub untaken : r.untaken ≡ m.untaken
  pub loose : is_loose r.part ≡ is_loose m.part
  pub own : (p : Spot) → is_lasting c p ≡ true → is_set p ≡ false → own_word r.own p ≡ own_word m.own p
  pub era : own_word m.own (Era c c) ≤ own_word r.own (Era c c)
  pub roots : (j : ℕ) → (root_word c r j ≡ root_word c m j) ⊎ (root_word c m j ≡ 0)
  pub slots : (p : Spot) (x : ℕ) → is_slot p ≡ true → Knows m p x → Knows r p x
  pub values : (k v n : ℕ) → k < 16 → v ≢ 0 → root_word c m k ≡ v → IsValue (sight c m) v n → IsValue (sight c r) v n

-- ---- a latch that is taken

-- The latch of a is held, as the hold word tells, and nothing else changed
pub record Latched (c a : ℕ) (m r : Memo) : Type 0 where
  pub memo : core r ≡ core (record m { own = r.own; latch = Some a })
  pub hold : own_word r.own (Hold c) ≡ a + 1
  pub own : (p : Spot) → same_spot (Hold c) p ≡ false → own_word r.own p ≡ own_word m.own p

-- ---- the own map

abbrev pub SameMap : Memo → Memo → Type 0
SameMap m r = (k : ℕ) → map_in r.part k ≡ map_in m.part k

-- the key has this number and this value block, and no other key changed
abbrev pub MapSet : ℕ → ℕ → ℕ → Memo → Memo → Type 0
MapSet key n v m r = (k : ℕ) → map_in r.part k ≡ (if key == k then Some (n, v) else map_in m.part k)

-- the key is gone, and no other key changed
abbrev pub MapCut : ℕ → Memo → Memo → Type 0
MapCut key m r = (k : ℕ) → map_in r.part k ≡ (if key == k then None else map_in m.part k)

-- ---- what is left behind

-- each root names what it named, and the zero-count blocks are those before
pub record Cleared (c : ℕ) (m r : Memo) : Type 0 where
  pub roots : (j : ℕ) → root_word c r j ≡ root_word c m j
  pub dying : r.dying ≡ m.dying

-- the zero-count blocks that there were are still there
abbrev pub Still : Memo → Memo → Type 0
Still m r = (b : ℕ) → Contains m.dying b → Contains r.dying b

-- the own era had come to e, at which a count step finds no room
abbrev pub IsSpent : ℕ → ℕ → Memo → Type 0
IsSpent c e r = (2 ^ 47 - 4 < e) × (e ≤ own_word r.own (Era c c))

-- roots and zero-count blocks are as they were, or a step down that was to make them so was refused
abbrev pub Ended : ℕ → Memo → Memo → Type 0
Ended c m r = Cleared c m r ⊎ ((e : ℕ) × IsSpent c e r)

-- why a value block didn't come into the table, by the memo before and after
abbrev pub PutCause : Me → Memo → Memo → PutFault → Type 0
PutCause me m r (EraSpent e) = IsSpent me.who e r
PutCause me m r RootsFull = (j : ℕ) → j < 16 → root_word me.who m j ≢ 0
PutCause me m r (Full s b) = (k : ℕ) × (k < 16) × (root_word me.who m k ≡ 0)
PutCause me m r (CountFull b n) = n ≡ 1023
