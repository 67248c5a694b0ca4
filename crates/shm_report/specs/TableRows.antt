-- the rows of a pool's table
use Rattle.std.specs.{Prelude.{◌≡◌, ℕ, List, map, nat_eq}, List.IsDistinct}
use Rattle.shm_words.specs.declared.geometry.Geometry.{Geometry}
use Rattle.shm_graph.specs.{Spots.see, References.references, Tables.{Contents, contents_of, IsEntry, IsChain, IsTable}}
use Rattle.shm_graph.specs.declared.table.Entry.{Entry}
use Rattle.shm_report.specs.{PoolWords.IsCleanPool, Report.Row, declared.table_rows.ChainEntry.ChainEntry}
use Rattle.shm_report.specs.declared.table_rows.TableRow.{TableRow}

-- what a table is read from
abbrev pub contents_in : Geometry → List ℕ → Contents
contents_in g ws = contents_of g.wide (see g ws) (references g.wide (see g ws))

-- the entry that has its block at this address
pub record IsEntryAt (g : Geometry) (ws : List ℕ) (at : ℕ) (e : Entry) : Type 0 where
  pub client : ℕ
  pub bucket : ℕ
  pub block : at ≡ e.block
  pub is : IsEntry (contents_in g ws) client bucket e

-- what is read of an entry, with the block that its chain goes on with
pub record ReadsEntry (g : Geometry) (ws : List ℕ) (read : ChainEntry) (e : Entry) : Type 0 where
  pub next : read.next ≡ (contents_in g ws).refs e.block 0
  pub key : read.key ≡ e.key
  pub number : read.number ≡ e.number
  pub value : read.value ≡ e.value

-- the chain that begins at this address: its entries have keys of their own
pub record IsChainAt (g : Geometry) (ws : List ℕ) (at : ℕ) (es : List Entry) : Type 0 where
  pub client : ℕ
  pub bucket : ℕ
  pub is : IsChain (contents_in g ws) client bucket at es
  pub distinct : IsDistinct nat_eq (map (λ (e : Entry). e.key) es)

-- the words hold this table
abbrev pub HoldsTable : Geometry → List ℕ → (ℕ → ℕ → List Entry) → Type 0
HoldsTable g ws = IsTable g (see g ws)

-- where the words are those of a clean pool, this is so for each table that they hold
abbrev pub EachTable : Geometry → List ℕ → ((ℕ → ℕ → List Entry) → Type 0) → Type 0
EachTable g ws P = IsCleanPool g ws → (table : ℕ → ℕ → List Entry) → HoldsTable g ws table → P table

-- the row that a row of the program shows
abbrev pub row_seen : TableRow → Row
row_seen r = record { client = r.client; key = r.key; number = r.number; value = r.value }

-- the rows that a list of them shows
abbrev pub rows_seen : List TableRow → List Row
rows_seen = map row_seen
