-- the figures of a pool as tables
use Rattle.std.specs.Prelude.{ℕ, zero, suc, ◌+◌, ◌==◌, if◌then◌else◌, List, [], ◌∷◌, ◌++◌, map, slice_index, codes}
use Rattle.std.specs.declared.alloc.Global.{Global}
use Rattle.std.specs.Prelude.{Vec}
use Rattle.std.specs.Borrow.{Bor}
use Rattle.shm_words.specs.declared.geometry.Geometry.{Geometry}
use Rattle.shm_view.specs.declared.cell.Cell.{Cell, TheVariants.{Number, Client, Status}}
use Rattle.shm_view.specs.declared.cell.Table.{Table}
use Rattle.shm_view.specs.declared.{census.Census.Census, histogram.Histogram.Histogram, identity.Identity.Identity, stats.Stats.Stats}

-- ---- tables as lists

-- a table: its name, the names of its columns, and what stands in the cells of each row
pub record Grid : Type 0 where
  pub name : List ℕ
  pub heads : List (List ℕ)
  pub rows : List (List Cell)

-- the texts of some names
abbrev pub names_of : List (Bor (List ℕ)) → List (List ℕ)
names_of = map (λ name. name.now)

-- what stands in the cells of some rows
abbrev pub cells_of : List (Vec Cell Global) → List (List Cell)
cells_of = map (λ row. row.items)

-- what a table has
abbrev pub grid_of : Table → Grid
grid_of t = record { name = t.name.now; heads = names_of t.heads.items; rows = cells_of t.rows.items }

-- ---- words of cells

-- the word for a status
abbrev pub status_word : ℕ → List ℕ
status_word status =
    if status == 0 then codes "new"
    else if status == 1 then codes "live"
    else if status == 2 then codes "dead"
    else if status == 3 then codes "gone"
    else codes "unknown"

-- ---- the tables of a pool

-- those of f 0, f 1, .., f (n - 1), one after another
unfoldable pub rows_below : ℕ → (ℕ → List (List Cell)) → List (List Cell)
rows_below zero f = []
rows_below (suc n) f = rows_below n f ++ f n

-- how many are of a kind
abbrev pub sum_of : Histogram → ℕ → ℕ
sum_of h kind = slice_index h.sums.items kind

-- the format and the sizes
abbrev pub pool_row : Stats → List Cell
pool_row s = Number (if s.geometry.wide then 2 else 1) ∷ Number s.geometry.clients ∷ Number s.geometry.segments ∷ Number s.words ∷ []

unfoldable pub pool_grid : Stats → Grid
pool_grid s = record {
  name = codes "pool";
  heads = codes "format" ∷ codes "clients" ∷ codes "segments" ∷ codes "words" ∷ [];
  rows = pool_row s ∷ [];
}

-- how many segments an owner has
abbrev pub owner_rows : Histogram → ℕ → List (List Cell)
owner_rows owners owner = (Client owner ∷ Number (sum_of owners owner) ∷ []) ∷ []

-- how many segments are nobody's and each client's
unfoldable pub owners_grid : Geometry → Histogram → Grid
owners_grid g owners = record {
  name = codes "segments";
  heads = codes "owner" ∷ codes "segments" ∷ [];
  rows = rows_below (g.clients + 1) (owner_rows owners);
}

-- how many pages, live blocks and free blocks a class has
abbrev pub class_row : Census → ℕ → List Cell
class_row census class = Number class ∷ Number (sum_of census.pages class) ∷ Number (sum_of census.live class) ∷ Number (sum_of census.free class) ∷ []

-- the pages and the blocks of each class
unfoldable pub classes_grid : Census → Grid
classes_grid census = record {
  name = codes "classes";
  heads = codes "class" ∷ codes "pages" ∷ codes "live" ∷ codes "free" ∷ [];
  rows = map (class_row census) (0 ∷ 4 ∷ 8 ∷ 16 ∷ 32 ∷ []);
}

-- how many live blocks have a count, where any has
abbrev pub count_rows : Histogram → ℕ → List (List Cell)
count_rows counts count = if sum_of counts count == 0 then [] else (Number count ∷ Number (sum_of counts count) ∷ []) ∷ []

-- how many live blocks have each count, where any has
unfoldable pub counts_grid : Histogram → Grid
counts_grid counts = record {
  name = codes "counts";
  heads = codes "count" ∷ codes "blocks" ∷ [];
  rows = rows_below 1024 (count_rows counts);
}

-- what is said of an identity
abbrev pub identity_row : ℕ → Identity → List Cell
identity_row c i =
    Number c ∷ Status i.status ∷ Client i.hold ∷ Client i.latch ∷ Number i.home ∷ Number i.roots ∷ Number i.waiting ∷ Number i.keys ∷ Number i.longest ∷ []

-- what is said of identities, of which the first one has the number c
abbrev pub identity_rows : ℕ → List Identity → List (List Cell)
identity_rows c [] = []
identity_rows c (i ∷ is) = identity_row c i ∷ identity_rows (c + 1) is

-- what is said of each identity
unfoldable pub identities_grid : List Identity → Grid
identities_grid is = record {
  name = codes "clients";
  heads = codes "client" ∷ codes "status" ∷ codes "holds" ∷ codes "holder" ∷ codes "home" ∷ codes "roots" ∷ codes "waiting" ∷ codes "keys" ∷ codes "longest" ∷ [];
  rows = identity_rows 0 is;
}

-- all tables of a pool, in order
unfoldable pub grids_of : Stats → List Grid
grids_of s = pool_grid s ∷ owners_grid s.geometry s.census.owners ∷ classes_grid s.census ∷ counts_grid s.census.counts ∷ identities_grid s.identities.items ∷ []
