-- tables and their rows
use Rattle.std.proofs.Common.{◌≡◌, ℕ, ◌+◌, List, [], ◌∷◌, ◌++◌, map, Result, Ok, Err, Vec, ap, ◌∙◌, sym, add-one}
use Rattle.std.specs.Prelude.{IfOk}
use Rattle.std.specs.declared.alloc.{AllocError.AllocError, Global.Global}
use Rattle.shm_view.specs.declared.{cell.{Cell.Cell, Table.Table}, stats.Stats.Stats}
use Rattle.shm_view.specs.Tables.{Grid, cells_of, classes_grid, counts_grid, grid_of, grids_of, identities_grid, owners_grid, pool_grid, rows_below}

-- ---- rows

-- those of no number
pub no_rows : (f : ℕ → List (List Cell)) (rows : List (Vec Cell Global)) → rows ≡ [] → cells_of rows ≡ rows_below 0 f
unfolding rows_below
no_rows f rows e = ap cells_of e

-- those of one number more
pub rows_more : (f : ℕ → List (List Cell)) (n : ℕ) (old new : List (Vec Cell Global)) → cells_of new ≡ cells_of old ++ f n → cells_of old ≡ rows_below n f → cells_of new ≡ rows_below (n + 1) f
unfolding rows_below
rows_more f n old new e h = e ∙ ap (λ l. l ++ f n) h ∙ sym (ap (λ k. rows_below k f) (add-one n))

-- one row
pub one_row : (old new : List (Vec Cell Global)) (row : List Cell) → old ≡ [] → cells_of new ≡ cells_of old ++ row ∷ [] → cells_of new ≡ row ∷ []
one_row old new row e h = h ∙ ap (λ rows. cells_of rows ++ row ∷ []) e

-- ---- tables

-- a table that has these rows
pub table_of : (r : Result Table AllocError) (name : List ℕ) (heads : List (List ℕ)) (rows rows' : List (List Cell)) → rows ≡ rows' → IfOk r (λ t. grid_of t ≡ record { name = name; heads = heads; rows = rows }) → IfOk r (λ t. grid_of t ≡ record { name = name; heads = heads; rows = rows' })
table_of (Ok t) name heads rows rows' e h = h ∙ ap (λ l. record { name = name; heads = heads; rows = l }) e
table_of (Err x) name heads rows rows' e h = tt

-- five tables, one after another
pub five_tables : (v0 v1 v2 v3 v4 v5 : List Table) (a b c d e : Table) → v0 ≡ [] → v1 ≡ v0 ++ a ∷ [] → v2 ≡ v1 ++ b ∷ [] → v3 ≡ v2 ++ c ∷ [] → v4 ≡ v3 ++ d ∷ [] → v5 ≡ v4 ++ e ∷ [] → map grid_of v5 ≡ grid_of a ∷ grid_of b ∷ grid_of c ∷ grid_of d ∷ grid_of e ∷ []
five_tables v0 v1 v2 v3 v4 v5 a b c d e e0 e1 e2 e3 e4 e5 =
    let two = e2 ∙ ap (λ l. l ++ b ∷ []) (e1 ∙ ap (λ l. l ++ a ∷ []) e0) in
    ap (map grid_of) (e5 ∙ ap (λ l. l ++ e ∷ []) (e4 ∙ ap (λ l. l ++ d ∷ []) (e3 ∙ ap (λ l. l ++ c ∷ []) two)))

-- those of figures
pub grids_are : (s : Stats) (a b c d e : Grid) → a ≡ pool_grid s → b ≡ owners_grid s.geometry s.census.owners → c ≡ classes_grid s.census → d ≡ counts_grid s.census.counts → e ≡ identities_grid s.identities.items → a ∷ b ∷ c ∷ d ∷ e ∷ [] ≡ grids_of s
unfolding grids_of
grids_are s a b c d e ea eb ec ed ee = cc
