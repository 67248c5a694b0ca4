-- the text of a report, and of a summary
use Rattle.std.specs.Prelude.{◌≡◌, ℕ, zero, suc, ◌+◌, ◌==◌, if◌then◌else◌, List, [], ◌∷◌, ◌++◌, length, map, codes, eqb}
use Rattle.std.specs.{List.{flat_map, list_any, position_or_len}, Fmt.decimal, Ordering.nat_cmp, BTreeMap.insert_entry}
use Rattle.shm_words.specs.declared.geometry.Geometry.{Geometry}
use Rattle.shm_graph.specs.{declared.{spot.Spot.Spot, table.Entry.Entry}, Blocks.{classes, headers}}
use Rattle.shm_graph.specs.{References.{references, references_in_all, live_count, homes_in_all}, Spots.see}
use Rattle.shm_graph.specs.Tables.{IsTable}
use Rattle.shm_script.specs.Logged.{Logged}
use Rattle.shm_report.specs.{PoolWords.IsCleanPool, Logs.{line_end, client_line, log_text}}

-- a row of the table as it is printed
pub record Row : Type 0 where
  pub client : ℕ
  pub key : ℕ
  pub number : ℕ
  pub value : ℕ

-- the entries of the first n chains, one chain after another
abbrev pub entries_below : ℕ → (ℕ → List Entry) → List Entry
entries_below zero chains = []
entries_below (suc n) chains = entries_below n chains ++ chains n

-- entries added to a map that is kept in the order of its keys
abbrev pub add_entries : List (ℕ × (ℕ × ℕ)) → List Entry → List (ℕ × (ℕ × ℕ))
add_entries m [] = m
add_entries m (e ∷ es) = add_entries (insert_entry nat_cmp m e.key (e.number, e.value)) es

-- the entries of a partition in the order of their keys: each key with its number and its value block
abbrev pub in_order : (ℕ → List Entry) → List (ℕ × (ℕ × ℕ))
in_order chains = add_entries [] (entries_below 16 chains)

abbrev pub row_of : ℕ → ℕ × (ℕ × ℕ) → Row
row_of c e = record { client = c; key = e.0; number = e.1.0; value = e.1.1 }

-- the rows of the first n identities, by client and then by key
abbrev pub rows_below : ℕ → (ℕ → ℕ → List Entry) → List Row
rows_below zero table = []
rows_below (suc c) table = rows_below c table ++ map (row_of c) (in_order (table c))

-- the value blocks that these rows name, in the order in which they are named first, behind those of `seen`
abbrev pub named_from : List ℕ → List Row → List ℕ
named_from seen [] = seen
named_from seen (r ∷ rs) = named_from (if list_any (eqb r.value) seen then seen else seen ++ r.value ∷ []) rs

-- the number of a value block: they are numbered from 1 in the order in which rows name them first
abbrev pub value_number : List ℕ → ℕ → ℕ
value_number named v = position_or_len (λ x. x == v) named + 1

-- `C KEY NUMBER vI`
abbrev pub row_line : List ℕ → Row → List ℕ
row_line named r = decimal r.client ++ codes " " ++ decimal r.key ++ codes " " ++ decimal r.number ++ codes " v" ++ decimal (value_number named r.value) ++ line_end

-- `value vI COUNT` for each value block, of which the first has the number n; COUNT is the count in its header
abbrev pub value_lines : (ℕ → ℕ) → ℕ → List ℕ → List ℕ
value_lines count n [] = []
value_lines count n (v ∷ vs) = codes "value v" ++ decimal n ++ codes " " ++ decimal (count v) ++ line_end ++ value_lines count (n + 1) vs

-- `table E` for E rows
abbrev pub table_line : List Row → List ℕ
table_line rows = codes "table " ++ decimal (length rows) ++ line_end

-- `homes H`, and `live L refs F`
abbrev pub counts_lines : ℕ → ℕ → ℕ → List ℕ
counts_lines homes live refs = codes "homes " ++ decimal homes ++ line_end ++ codes "live " ++ decimal live ++ codes " refs " ++ decimal refs ++ line_end

-- how many homes are set, how many blocks are live, and how many words name one
abbrev pub counts_text : Geometry → (Spot → ℕ) → List ℕ
counts_text g w = counts_lines (homes_in_all g w) (live_count g w) (references_in_all g (classes w) (references g.wide w))

-- the lines that say what the pool holds, for these rows
abbrev pub rows_text : Geometry → (Spot → ℕ) → List Row → List ℕ
rows_text g w rows =
    table_line rows
    ++ flat_map (row_line (named_from [] rows)) rows
    ++ value_lines (λ v. (headers w v).count) 1 (named_from [] rows)
    ++ counts_text g w

-- the lines that say what the pool holds, with this table
abbrev pub table_text : Geometry → (Spot → ℕ) → (ℕ → ℕ → List Entry) → List ℕ
table_text g w table = rows_text g w (rows_below g.clients table)

-- the report: the logs in order, and then what the pool holds
abbrev pub report_of : Geometry → (Spot → ℕ) → (ℕ → ℕ → List Entry) → List Logged → List ℕ
report_of g w table logs = flat_map log_text logs ++ table_text g w table

-- the summary: the report without the lines of commands, of rows and of value blocks
abbrev pub summary_of : Geometry → (Spot → ℕ) → (ℕ → ℕ → List Entry) → List Logged → List ℕ
summary_of g w table logs = flat_map client_line logs ++ table_line (rows_below g.clients table) ++ counts_text g w

-- where the words are those of a clean pool, the text is the report, or the summary, of these logs and of the table that they hold
abbrev pub IsReport : Geometry → List ℕ → List Logged → List ℕ → Type 0
IsReport g ws logs text = IsCleanPool g ws → (table : ℕ → ℕ → List Entry) → IsTable g (see g ws) table → text ≡ report_of g (see g ws) table logs

abbrev pub IsSummary : Geometry → List ℕ → List Logged → List ℕ → Type 0
IsSummary g ws logs text = IsCleanPool g ws → (table : ℕ → ℕ → List Entry) → IsTable g (see g ws) table → text ≡ summary_of g (see g ws) table logs
