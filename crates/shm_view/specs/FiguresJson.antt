-- the figures of a pool as JSON
use Rattle.std.specs.Prelude.{◌≡◌, ℕ, ◌+◌, ◌-◌, ◌==◌, if◌then◌else◌, List, [], ◌∷◌, ◌++◌, length, map, take, slice_index_or, codes, Some}
use Rattle.std.specs.{List.flat_map, Fmt.decimal}
use Rattle.json.specs.Token as token
use Rattle.json.specs.Token.{Token}
use Rattle.json.specs.Json.{Json, null, number, string, array, object, Items, no_items, item, Members, no_members, member, document}
use Rattle.json.specs.{Print.print, Tree.json_tokens}
use Rattle.shm_audit.specs.{declared.verdict.Verdict.Verdict, Texts.{line_end, verdict_line}}
use Rattle.shm_view.specs.declared.{cell.Cell.{Cell, TheVariants.{Number, Client, Status}}, stats.Stats.Stats}
use Rattle.shm_view.specs.{Figures.AreStats, Tables.{Grid, grids_of, status_word}}

-- ---- lists as JSON

-- the items of an array
abbrev pub items_of : List Json → Items
items_of [] = no_items
items_of (j ∷ js) = item j (items_of js)

-- the members of an object, each by its name and its value
abbrev pub members_of : List (List ℕ × Json) → Members
members_of [] = no_members
members_of (m ∷ ms) = member m.0 m.1 (members_of ms)

-- the tokens of a member
abbrev pub member_tokens : List ℕ × Json → List Token
member_tokens m = token.key m.0 ∷ json_tokens m.1

-- a JSON value on a line
abbrev pub json_line : Json → List ℕ
json_line j = print (json_tokens j) ++ line_end

-- ---- the value of figures

-- a client by its number and one; nobody is `null`
abbrev pub client_json : ℕ → Json
client_json client = if client == 0 then null else number (decimal (client - 1))

-- what stands in a cell
abbrev pub cell_json : Cell → Json
cell_json (Number n) = number (decimal n)
cell_json (Client client) = client_json client
cell_json (Status status) = string (status_word status)

-- the members of a row in the columns with these names, of which the first one has this number
abbrev pub row_members : List (List ℕ) → ℕ → List Cell → List (List ℕ × Json)
row_members names column [] = []
row_members names column (cell ∷ cells) = (slice_index_or names column [], cell_json cell) ∷ row_members names (column + 1) cells

-- a row
abbrev pub row_json : List (List ℕ) → List Cell → Json
row_json names row = object (members_of (row_members names 0 row))

-- the rows of a table
abbrev pub rows_json : List (List ℕ) → List (List Cell) → Json
rows_json names rows = array (items_of (map (row_json names) rows))

-- a table, by its name
abbrev pub grid_member : Grid → List ℕ × Json
grid_member g = (g.name, rows_json g.heads g.rows)

-- the words of a verdict: its line without the line's end
abbrev pub verdict_words : Verdict → List ℕ
verdict_words v = take (length (verdict_line v) - 1) (verdict_line v)

-- the verdict of the audit, by its name
abbrev pub verdict_member : Verdict → List ℕ × Json
verdict_member v = (codes "audit", string (verdict_words v))

-- figures: an object of their tables, and the audit's verdict
unfoldable pub figures_json : Stats → Json
figures_json s = object (members_of (map grid_member (grids_of s) ++ verdict_member s.verdict ∷ []))

-- the text is that of the figures of an image on a line, and it reads as their value
abbrev pub IsFiguresJson : List ℕ → List ℕ → Type 0
IsFiguresJson image text = (s : Stats) × AreStats image s × (text ≡ json_line (figures_json s)) × (document text ≡ Some (figures_json s))
