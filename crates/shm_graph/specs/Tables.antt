-- the table that a pool holds: a partition for each identity
use Rattle.std.specs.Prelude.{◌≡◌, ◌≢◌, ℕ, ◌%◌, ◌^◌, ◌<◌, ◌≤◌, Bool, true, ◌==◌, if◌then◌else◌, List, [], ◌∷◌, map, Option, Some, None, nat_eq}
use Rattle.std.specs.List.{IsDistinct}
use Rattle.shm_words.specs.declared.{geometry.Geometry.Geometry, header.Header.Header}
use Rattle.shm_words.specs.Tags.{tag_refs, tag_plain, tag_author}
use Rattle.shm_graph.specs.declared.{spot.Spot.{Spot, TheVariants.{Home, Tag, Body}}, table.Entry.Entry}
use Rattle.shm_graph.specs.{Blocks.headers, References.references}

-- what a table is read from: headers, tags, the references in blocks and the words of blocks
pub record Contents : Type 0 where
  pub wide : Bool
  pub head : ℕ → Header
  pub tag : ℕ → ℕ
  pub refs : ℕ → ℕ → ℕ
  pub body : ℕ → ℕ → ℕ

abbrev pub contents_of : Bool → (Spot → ℕ) → (Spot → ℕ) → Contents
contents_of wide w t = record { wide = wide; head = headers w; tag = λ b. w (Tag b); refs = λ b i. t (Body b i); body = λ b i. w (Body b i) }

-- a live block with so many reference words and plain words
pub record HasShape (x : Contents) (refs plain b : ℕ) : Type 0 where
  pub live : (x.head b).live ≡ true
  pub names : tag_refs x.wide (x.tag b) ≡ refs
  pub words : tag_plain x.wide (x.tag b) ≡ plain

-- the entry's block: next and value are its references and the key its plain word; a value block has no reference and one plain word
pub record IsEntry (x : Contents) (c bucket : ℕ) (e : Entry) : Type 0 where
  pub shape : HasShape x 2 1 e.block
  pub author : tag_author x.wide (x.tag e.block) ≡ c
  pub key : x.body e.block 2 ≡ e.key
  pub small : e.key < 2 ^ 32
  pub placed : e.key % 16 ≡ bucket
  pub value : x.refs e.block 1 ≡ e.value
  pub holds : HasShape x 0 1 e.value
  pub number : x.body e.value 0 ≡ e.number

-- the entries of a chain, from the block at which it begins
abbrev pub IsChain : Contents → ℕ → ℕ → ℕ → List Entry → Type 0
IsChain x c bucket at [] = at ≡ 0
IsChain x c bucket at (e ∷ es) = (at ≡ e.block) × IsEntry x c bucket e × IsChain x c bucket (x.refs e.block 0) es

-- the chains of an identity's partition, by bucket: its home names a directory of 16 buckets
pub record IsPartition (x : Contents) (c home : ℕ) (chains : ℕ → List Entry) : Type 0 where
  pub none : home ≡ 0 → (b : ℕ) → chains b ≡ []
  pub shape : home ≢ 0 → HasShape x 16 0 home
  pub author : home ≢ 0 → tag_author x.wide (x.tag home) ≡ c
  pub chain : home ≢ 0 → (b : ℕ) → b < 16 → IsChain x c b (x.refs home b) (chains b)
  pub distinct : (b : ℕ) → IsDistinct nat_eq (map (λ (e : Entry). e.key) (chains b))
  pub beyond : (b : ℕ) → 16 ≤ b → chains b ≡ []

-- the table of a pool in which no step is in progress: the partition of each identity
abbrev pub IsTable : Geometry → (Spot → ℕ) → (ℕ → ℕ → List Entry) → Type 0
IsTable g w table = (c : ℕ) → c < g.clients → IsPartition (contents_of g.wide w (references g.wide w)) c (w (Home c)) (table c)

-- what a chain holds at a key: the number and its value block
abbrev pub find : ℕ → List Entry → Option (ℕ × ℕ)
find key [] = None
find key (e ∷ es) = if e.key == key then Some (e.number, e.value) else find key es

-- the map of a partition: from each key to the number and its value block
abbrev pub map_of : (ℕ → List Entry) → ℕ → Option (ℕ × ℕ)
map_of chains key = find key (chains (key % 16))
