-- the tokens and the depth of lists as JSON, and of figures
use Rattle.std.proofs.Common.{◌≡◌, ℕ, ◌+◌, ◌≤◌, Bool, true, false, cond, List, [], ◌∷◌, ◌++◌, map, refl, sym, ap, ◌∙◌, append_assoc, append-nil, arith}
use Rattle.std.proofs.lemmas.Grind.{flat_map-append}
use Rattle.std.specs.List.{flat_map}
use Rattle.json.specs.Token.{Token, begin_object, end_object, end_array}
use Rattle.json.specs.Json.{Json, null, number, object}
use Rattle.json.specs.Tree.{json_tokens, items_tokens, members_tokens, depth, items_depth, members_depth}
use Rattle.shm_audit.specs.declared.verdict.Verdict.{Verdict}
use Rattle.shm_view.specs.declared.cell.Cell.{Cell, TheVariants.{Number, Client, Status}}
use Rattle.shm_view.specs.declared.stats.Stats.{Stats}
use Rattle.shm_view.specs.Tables.{Grid, grids_of}
use Rattle.shm_view.specs.FiguresJson.{items_of, members_of, member_tokens, cell_json, row_members, row_json, grid_member, verdict_member, figures_json}

-- ---- tokens

pub tokens_of_items : (js : List Json) → items_tokens (items_of js) ≡ flat_map json_tokens js ++ end_array ∷ []
tokens_of_items [] = refl
tokens_of_items (j ∷ js) = ap (λ ts. json_tokens j ++ ts) (tokens_of_items js) ∙ sym (append_assoc (json_tokens j) (flat_map json_tokens js) (end_array ∷ []))

pub tokens_of_members : (ms : List (List ℕ × Json)) → members_tokens (members_of ms) ≡ flat_map member_tokens ms ++ end_object ∷ []
tokens_of_members [] = refl
tokens_of_members (m ∷ ms) =
    ap (λ ts. member_tokens m ++ ts) (tokens_of_members ms) ∙ sym (append_assoc (member_tokens m) (flat_map member_tokens ms) (end_object ∷ []))

-- what is written of an array or an object: what opens it, what is in it, and what closes it
pub wrapped : (old opened inside new : List Token) (open_by close_by : Token) (ts whole : List Token) → opened ≡ old ++ open_by ∷ [] → inside ≡ opened ++ ts → new ≡ inside ++ close_by ∷ [] → whole ≡ ts ++ close_by ∷ [] → new ≡ old ++ open_by ∷ whole
wrapped old opened inside new open_by close_by ts whole e1 e2 e3 e4 =
    let grouped : ((old ++ open_by ∷ []) ++ ts) ++ close_by ∷ [] ≡ old ++ open_by ∷ (ts ++ close_by ∷ []) = simp append_assoc in
    e3 ∙ ap (λ l. l ++ close_by ∷ []) (e2 ∙ ap (λ l. l ++ ts) e1) ∙ grouped ∙ ap (λ l. old ++ open_by ∷ l) (sym e4)

-- what is written of figures
pub tokens_of_figures : (s : Stats) (gs : List Grid) (old opened tables verdict new : List Token) → gs ≡ grids_of s → opened ≡ old ++ begin_object ∷ [] → tables ≡ opened ++ flat_map member_tokens (map grid_member gs) → verdict ≡ tables ++ member_tokens (verdict_member s.verdict) → new ≡ verdict ++ end_object ∷ [] → new ≡ old ++ json_tokens (figures_json s)
unfolding figures_json
tokens_of_figures s gs old opened tables verdict new e0 e1 e2 e3 e4 =
    let front = flat_map member_tokens (map grid_member gs) in
    let last = member_tokens (verdict_member s.verdict) in
    let ms = map grid_member gs ++ verdict_member s.verdict ∷ [] in
    let inside : verdict ≡ opened ++ (front ++ last) = e3 ∙ ap (λ l. l ++ last) e2 ∙ append_assoc opened front last in
    let whole : members_tokens (members_of ms) ≡ (front ++ last) ++ end_object ∷ [] =
    tokens_of_members ms ∙ ap (λ l. l ++ end_object ∷ []) (flat_map-append member_tokens (map grid_member gs) (verdict_member s.verdict ∷ []) ∙ ap (λ l. front ++ l) (append-nil last)) in
    wrapped old opened verdict new begin_object end_object (front ++ last) (members_tokens (members_of ms)) e1 inside e4 whole
    ∙ ap (λ xs. old ++ json_tokens (object (members_of (map grid_member xs ++ verdict_member s.verdict ∷ [])))) e0

-- ---- depth

flat : (b : Bool) (s : List ℕ) → depth (cond b null (number s)) ≤ 0
flat true s = omega arith
flat false s = omega arith

cell_depth : (cell : Cell) → depth (cell_json cell) ≤ 0
cell_depth (Number n) = omega arith
cell_depth (Client client) = flat _ _
cell_depth (Status status) = omega arith

row_depth : (names : List (List ℕ)) (column : ℕ) (row : List Cell) → members_depth (members_of (row_members names column row)) ≤ 0
row_depth names column [] = omega arith
row_depth names column (cell ∷ cells) = omega (arith, cell_depth cell, row_depth names (column + 1) cells)

rows_depth : (names : List (List ℕ)) (rows : List (List Cell)) → items_depth (items_of (map (row_json names) rows)) ≤ 1
rows_depth names [] = omega arith
rows_depth names (row ∷ rows) = omega (arith, row_depth names 0 row, rows_depth names rows)

members_depth-figures : (gs : List Grid) (v : Verdict) → members_depth (members_of (map grid_member gs ++ verdict_member v ∷ [])) ≤ 2
members_depth-figures [] v = omega arith
members_depth-figures (g ∷ gs) v = omega (arith, rows_depth g.heads g.rows, members_depth-figures gs v)

pub depth-figures_json : (s : Stats) → depth (figures_json s) ≤ 3
unfolding figures_json
depth-figures_json s = omega (arith, members_depth-figures (grids_of s) s.verdict)
