-- the partition that a memo has, once a count step has changed one reference
use Rattle.std.specs.Prelude.{ℕ, zero, suc, ◌==◌, if◌then◌else◌, List, [], ◌∷◌, map, replicate, Option, Some, None}
use Rattle.shm_graph.specs.declared.{spot.Spot.{Spot, TheVariants.{Home, Body}}, table.{Entry.Entry, Part.Part}}
use Rattle.shm_graph.specs.{declared.{table.Part.TheVariants.{Loose, Table}, memo.Stored.Stored}, Reach.known_at}

abbrev pub or_zero : Option ℕ → ℕ
or_zero None = 0
or_zero (Some x) = x

-- what is known of a word of a block, or 0
abbrev pub word_known : List Stored → ℕ → ℕ → ℕ
word_known known b i = or_zero (known_at (Body b i) known)

-- the entry that a block is, by what is known of its words
abbrev pub entry_known : List Stored → ℕ → Entry
entry_known known b =
    record {
      key = word_known known b 2;
      number = word_known known (word_known known b 1) 0;
      block = b;
      value = word_known known b 1;
    }

-- the entries of a chain from a block on
abbrev pub chain_from : ℕ → List Entry → List Entry
chain_from b [] = []
chain_from b (e ∷ es) = if e.block == b then e ∷ es else chain_from b es

abbrev pub or_linked : List Stored → ℕ → List Entry → List Entry → List Entry
or_linked known x rest [] = entry_known known x ∷ chain_from (word_known known x 0) rest
or_linked known x rest es = es

-- a reference that led to `rest` now names block x: nothing, an entry of `rest`, or a new entry whose next one is in `rest` or none
abbrev pub relinked : List Stored → ℕ → List Entry → List Entry
relinked known x rest = if x == 0 then [] else or_linked known x rest (chain_from x rest)

-- the chain after word i of block b was made x, where b is one of its entries
abbrev pub chain_set : List Stored → ℕ → ℕ → ℕ → List Entry → List Entry
chain_set known b i x [] = []
chain_set known b i x (e ∷ es) =
    if e.block == b then
    (if i == 0 then e ∷ relinked known x es
    else if i == 1 then record e { value = x; number = word_known known x 0 } ∷ es
    else e ∷ es)
    else e ∷ chain_set known b i x es

-- one of the chains changed; a chain that isn't listed is empty
abbrev pub bucket_set : (List Entry → List Entry) → ℕ → List (List Entry) → List (List Entry)
bucket_set f zero [] = f [] ∷ []
bucket_set f (suc i) [] = [] ∷ bucket_set f i []
bucket_set f zero (es ∷ ess) = f es ∷ ess
bucket_set f (suc i) (es ∷ ess) = es ∷ bucket_set f i ess

-- the partition of c, whose home names the directory, after a reference word was made x
abbrev pub chains_set : List Stored → ℕ → ℕ → Spot → ℕ → List (List Entry) → List (List Entry)
chains_set known c home (Home d) x ess = replicate 16 []
chains_set known c home (Body b i) x ess = if b == home then bucket_set (relinked known x) i ess else map (chain_set known b i x) ess
chains_set known c home p x ess = ess

abbrev pub part_set : List Stored → ℕ → ℕ → Spot → ℕ → Part → Part
part_set known c home p x Loose = Loose
part_set known c home p x (Table ess) = Table (chains_set known c home p x ess)
