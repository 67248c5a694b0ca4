-- what a count step that a redo word begins needs of the memo of its identity, for changes and for slots beside roots
use Rattle.std.specs.Prelude.{Bool, ◌≡◌, ◌≢◌, ℕ, ◌+◌, ◌%◌, ◌^◌, ◌<◌, ◌≤◌, true, ◌⊎◌, Option, Some, slice_index}
use Rattle.std.specs.List.{Contains}
use Rattle.shm_graph.specs.declared.spot.Spot.TheVariants.{Home, Era, Root, Tail, QueueHead, Slot, Body}
use Rattle.shm_graph.specs.{declared.memo.{Fact.TheVariants.Counter, Op.TheVariants.Nothing, Memo.Memo}, Views.own_word}
use Rattle.shm_graph.specs.{Reach.is_reached, Telling.{Claim, claims}}
use Rattle.kind_parts.specs.Conditions.{IsHere}

-- no step is in progress, and the own era leaves room for one that takes it up by less than n
pub record HasRoom (c : ℕ) (m : Memo) (n : ℕ) : Type 0 where
  pub here : IsHere m
  pub idle : m.op ≡ Nothing
  pub room : own_word m.own (Era c c) + n ≤ 2 ^ 47

-- root k has block a, and is to have another block, which is in reach
pub record MayReplaceRoot (c : ℕ) (m : Memo) (k a b : ℕ) : Type 0 where
  pub may : HasRoom c m 4
  pub some : a ≢ 0
  pub root : own_word m.own (Root c k) ≡ a
  pub other : a ≢ b
  pub source : is_reached c m b ≡ true

-- the own home is empty, and is to have a block in reach
pub record MaySet (c : ℕ) (m : Memo) (b : ℕ) : Type 0 where
  pub may : HasRoom c m 3
  pub empty : own_word m.own (Home c) ≡ 0
  pub source : is_reached c m b ≡ true

-- a block in reach is to stand in slot k, the next one of the queue to another of the n clients: no block waits there for its tail, and a head that was read leaves room
pub record MayPut (n c : ℕ) (m : Memo) (i k b : ℕ) : Type 0 where
  pub may : HasRoom c m 3
  pub to : i < n
  pub other : c ≢ i
  pub next : k ≡ own_word m.own (Tail c i) % 8
  pub none : slice_index m.unsent i ≡ 0
  pub read : (y : ℕ) × Contains m.facts (Counter (QueueHead c i) y) × (own_word m.own (Tail c i) < y + 8)
  pub source : is_reached c m b ≡ true

-- block b is known in slot k of the queue from s, whence it is to be taken
pub record MayTake (c : ℕ) (m : Memo) (s k b : ℕ) : Type 0 where
  pub may : HasRoom c m 3
  pub known : Contains m.known (record { spot = Slot s c k; value = b })

-- block b stands in slot k of the queue to another of the n clients, its tail isn't stored, and it is to go
pub record MayTakeBack (n c : ℕ) (m : Memo) (i k b : ℕ) : Type 0 where
  pub may : HasRoom c m 3
  pub to : i < n
  pub other : c ≢ i
  pub next : k ≡ own_word m.own (Tail c i) % 8
  pub some : b ≢ 0
  pub unsent : slice_index m.unsent i ≡ b

-- c may store the reference words of this block, whose author is told: it is a zero-count block of c, or it is c's own, c has it in reach, and holds its own latch
abbrev pub MayStoreIn : ℕ → Memo → ℕ → Option ℕ → Type 0
MayStoreIn c m d author = Contains m.dying d ⊎ ((m.latch ≡ Some c) × (author ≡ Some c) × (is_reached c m d ≡ true))

-- word i of block d is a reference word that c may store, and is x: the block's shape is told, by its tag or by what was read of a table, and the word is known
pub record IsOwnWord (wide : Bool) (c : ℕ) (m : Memo) (d i x : ℕ) : Type 0 where
  pub told : (k : Claim) × Contains (claims wide c m) k × (k.block ≡ d) × (i < k.refs) × MayStoreIn c m d k.author
  pub word : Contains m.known (record { spot = Body d i; value = x })

-- the word is empty, and is to have a block in reach
pub record MayFill (wide : Bool) (c : ℕ) (m : Memo) (d i b : ℕ) : Type 0 where
  pub may : HasRoom c m 3
  pub word : IsOwnWord wide c m d i 0
  pub source : is_reached c m b ≡ true

-- the word has block b, which is to go
pub record MayClear (wide : Bool) (c : ℕ) (m : Memo) (d i b : ℕ) : Type 0 where
  pub may : HasRoom c m 3
  pub some : b ≢ 0
  pub word : IsOwnWord wide c m d i b

-- the word has block a, and is to have another block, which is in reach
pub record MayReplace (wide : Bool) (c : ℕ) (m : Memo) (d i a b : ℕ) : Type 0 where
  pub may : HasRoom c m 4
  pub some : a ≢ 0
  pub word : IsOwnWord wide c m d i a
  pub other : a ≢ b
  pub source : is_reached c m b ≡ true
