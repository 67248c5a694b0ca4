-- what a count step at a word that the own partition is read from needs of the memo of its identity, and what it makes of the map
use Rattle.std.specs.Prelude.{◌≡◌, ℕ, ◌%◌, ◌^◌, ◌<◌, ◌==◌, if◌then◌else◌, List, [], ◌∷◌, ◌++◌, Option, Some, None, slice_index_or, Bool}
use Rattle.std.specs.List.{Contains}
use Rattle.shm_words.specs.Tags.{tag_refs, tag_plain, tag_author}
use Rattle.shm_graph.specs.declared.{spot.Spot.{Spot, TheVariants.{Home, Tag, Body}}, memo.First.TheVariants.Begun}
use Rattle.shm_graph.specs.declared.memo.{ChangeStage.TheVariants.Raising, Memo.Memo, Op.Op}
use Rattle.shm_graph.specs.declared.{memo.{Op.TheVariants.{Up, Down, Change}, Stored.Stored}, table.Entry.Entry}
use Rattle.shm_graph.specs.{declared.table.Part.{Part, TheVariants.{Loose, Table}}, Tables.find, Views.own_word}

-- ---- what a memo shows of its partition

-- what is known, the value blocks, the partition, and the block that the own home names
pub record Sight : Type 0 where
  pub known : List Stored
  pub values : List ℕ
  pub part : Part
  pub home : ℕ

abbrev pub sight : ℕ → Memo → Sight
sight c m = record { known = m.known; values = m.values; part = m.part; home = own_word m.own (Home c) }

-- the entries of a bucket
abbrev pub chain_in : Part → ℕ → List Entry
chain_in Loose b = []
chain_in (Table chains) b = slice_index_or chains b []

-- what the partition has at a key: the number and its value block
abbrev pub map_in : Part → ℕ → Option (ℕ × ℕ)
map_in part key = find key (chain_in part (key % 16))

-- the word that leads to the entry after these ones, in a chain that begins at word i of block d
abbrev pub link_after : ℕ → ℕ → List Entry → Spot
link_after d i [] = Body d i
link_after d i (e ∷ es) = link_after e.block 0 es

-- ---- what is known of blocks

abbrev pub IsKnown : Sight → Spot → ℕ → Type 0
IsKnown s p x = Contains s.known (record { spot = p; value = x })

-- the tag of a block of c is known, and with it so many reference words and plain words
pub record IsTagged (wide : Bool) (c : ℕ) (s : Sight) (b refs plain : ℕ) : Type 0 where
  pub tag : ℕ
  pub known : IsKnown s (Tag b) tag
  pub refs_are : tag_refs wide tag ≡ refs
  pub plain_are : tag_plain wide tag ≡ plain
  pub author : tag_author wide tag ≡ c

-- a block that is to be the directory: all its reference words are known to be empty
pub record IsBare (wide : Bool) (c : ℕ) (s : Sight) (b : ℕ) : Type 0 where
  pub tagged : IsTagged wide c s b 16 0
  pub words : (i : ℕ) → i < 16 → IsKnown s (Body b i) 0

-- a block that is to be an entry: its key is known, and the partition has none of that key
pub record IsNew (wide : Bool) (c : ℕ) (s : Sight) (b key : ℕ) : Type 0 where
  pub tagged : IsTagged wide c s b 2 1
  pub word : IsKnown s (Body b 2) key
  pub small : key < 2 ^ 32
  pub absent : map_in s.part key ≡ None

-- a value block whose number is known
pub record IsValue (s : Sight) (b n : ℕ) : Type 0 where
  pub value : Contains s.values b
  pub word : IsKnown s (Body b 0) n

-- the partition has this entry, between those before it and those after it in the chain of its bucket
pub record HasEntry (s : Sight) (key : ℕ) (before : List Entry) (e : Entry) (after : List Entry) : Type 0 where
  pub chain : chain_in s.part (key % 16) ≡ before ++ e ∷ after
  pub key_is : e.key ≡ key

-- ---- the step

-- A count step that changes a word from one block to another: the home comes to name an empty directory; the word is one of a block that is still to be an entry;
-- a new entry begins the chain of its bucket; an entry whose next word is known is taken out of its chain; an entry has another value block
pub data TableStep (wide : Bool) (c : ℕ) (s : Sight) (p : Spot) (old new : ℕ) : Type 0 where
  Founds : (at : p ≡ Home c) (none : old ≡ 0) (bare : IsBare wide c s new) → TableStep wide c s p old new
  Prepares : (b i key : ℕ) (at : p ≡ Body b i) (entry : IsNew wide c s b key) → TableStep wide c s p old new
  Links : (key v n : ℕ) (at : p ≡ Body s.home (key % 16)) (entry : IsNew wide c s new key) (next : IsKnown s (Body new 0) old) (value : IsKnown s (Body new 1) v) (number : IsValue s v n) → TableStep wide c s p old new
  Unlinks : (key : ℕ) (before : List Entry) (e : Entry) (after : List Entry) (has : HasEntry s key before e after) (at : p ≡ link_after s.home (key % 16) before) (entry : e.block ≡ old) (next : IsKnown s (Body old 0) new) → TableStep wide c s p old new
  Replaces : (key n : ℕ) (before : List Entry) (e : Entry) (after : List Entry) (has : HasEntry s key before e after) (at : p ≡ Body e.block 1) (number : IsValue s new n) → TableStep wide c s p old new

-- what it makes of the map
abbrev pub map_after : (wide : Bool) (c : ℕ) (s : Sight) (p : Spot) (old new : ℕ) → TableStep wide c s p old new → (ℕ → Option (ℕ × ℕ)) → ℕ → Option (ℕ × ℕ)
map_after wide c s p old new (Founds at none bare) f k = f k
map_after wide c s p old new (Prepares b i key at entry) f k = f k
map_after wide c s p old new (Links key v n at entry next value number) f k = if key == k then Some (n, v) else f k
map_after wide c s p old new (Unlinks key before e after has at entry next) f k = if key == k then None else f k
map_after wide c s p old new (Replaces key n before e after has at number) f k = if key == k then Some (n, new) else f k

-- a step in progress that has begun, and is to change this word from one block to another
abbrev pub Begins : Op → Spot → ℕ → ℕ → Type 0
Begins (Up Begun q b e) p old new = (q ≡ p) × (old ≡ 0) × (new ≡ b)
Begins (Down Begun q b e) p old new = (q ≡ p) × (old ≡ b) × (new ≡ 0)
Begins (Change (Raising Begun) q a b e) p old new = (q ≡ p) × (old ≡ a) × (new ≡ b)
Begins _ p old new = ⊥
