-- the figures of a pool as aligned text
use Rattle.std.specs.Prelude.{◌≡◌, ℕ, zero, suc, ◌+◌, ◌-◌, max, ◌==◌, if◌then◌else◌, List, [], ◌∷◌, ◌++◌, length, map, fold, replicate, slice_get, slice_index, unwrap_or, option_map, codes}
use Rattle.std.specs.{List.flat_map, Fmt.decimal}
use Rattle.shm_audit.specs.Texts.{line_end, verdict_line}
use Rattle.shm_view.specs.declared.{cell.Cell.{Cell, TheVariants.{Number, Client, Status}}, stats.Stats.Stats}
use Rattle.shm_view.specs.{Figures.AreStats, Tables.{Grid, grids_of, status_word}}

-- a client by its number and one; nobody is `-`
abbrev pub client_text : ℕ → List ℕ
client_text client = if client == 0 then codes "-" else decimal (client - 1)

-- what stands in a cell
abbrev pub cell_text : Cell → List ℕ
cell_text (Number n) = decimal n
cell_text (Client client) = client_text client
cell_text (Status status) = status_word status

-- how wide what stands in a column of a row is, and 0 where nothing does
abbrev pub width_in : ℕ → List Cell → ℕ
width_in column row = length (unwrap_or (option_map cell_text (slice_get row column)) [])

-- how wide a column is whose name is so wide: as the widest of what stands in it
abbrev pub column_width : List (List Cell) → ℕ → ℕ → ℕ
column_width rows column name = fold (λ width row. max width (width_in column row)) name rows

-- how wide the columns with these names are, of which the first one has this number
abbrev pub widths_from : List (List Cell) → ℕ → List (List ℕ) → List ℕ
widths_from rows column [] = []
widths_from rows column (name ∷ names) = column_width rows column (length name) ∷ widths_from rows (column + 1) names

-- what parts a column from the one before it
abbrev pub gap_before : ℕ → List ℕ
gap_before column = if column == 0 then [] else codes "  "

-- a text at the right of a column of this width
unfoldable pub placed : ℕ → ℕ → List ℕ → List ℕ
placed column width text = gap_before column ++ (replicate (width - length text) 32 ++ text)

-- texts in columns of these widths, of which the first one has this number
abbrev pub texts_from : List ℕ → ℕ → List (List ℕ) → List ℕ
texts_from widths column [] = []
texts_from widths column (text ∷ texts) = placed column (slice_index widths column) text ++ texts_from widths (column + 1) texts

-- a line of texts in columns of these widths
abbrev pub line_of : List ℕ → List (List ℕ) → List ℕ
line_of widths texts = texts_from widths 0 texts ++ line_end

-- the lines of rows in columns of these widths
abbrev pub lines_of : List ℕ → List (List Cell) → List ℕ
lines_of widths = flat_map (λ row. line_of widths (map cell_text row))

-- the lines of a table: the names of its columns, and its rows
unfoldable pub grid_text : Grid → List ℕ
grid_text g = line_of (widths_from g.rows 0 g.heads) g.heads ++ lines_of (widths_from g.rows 0 g.heads) g.rows

-- the lines of tables, with a blank line after each
abbrev pub grids_text : List Grid → List ℕ
grids_text = flat_map (λ g. grid_text g ++ line_end)

-- the text of figures: their tables, and the audit's verdict
unfoldable pub figures_text : Stats → List ℕ
figures_text s = grids_text (grids_of s) ++ (codes "audit " ++ verdict_line s.verdict)

-- the text is that of the figures of an image
abbrev pub IsFiguresText : List ℕ → List ℕ → Type 0
IsFiguresText image text = (s : Stats) × AreStats image s × (text ≡ figures_text s)
