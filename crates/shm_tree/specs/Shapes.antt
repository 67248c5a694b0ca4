-- The shape of a line of a script: its word and its numbers, which may have any size.
use Rattle.std.specs.{Prelude.{ℕ, List, [], ◌∷◌, Option, None, codes, ◌==◌, if◌then◌else◌}, List.slice_split}
use Rattle.std.specs.Str.{bytes_eq}
use Rattle.shm_script.specs.{Numbers.number_of, Shapes.{both, given, one_of, two_of, three_of}}
use Rattle.shm_tree.specs.declared.shape.RawTree.{RawTree, TheVariants.{Tree, Life, Set, Del, Get, Copy, Clear}}

-- a set: four numbers alone
unfoldable pub set_of : List (List ℕ) → Option RawTree
set_of (word ∷ words) = both (λ a n. Set a n.0 n.1 n.2) (number_of word) (three_of words)
set_of [] = None

-- a line at the head of a script: how many segments there are, or a life
unfoldable pub heading_of : List ℕ → List (List ℕ) → Option RawTree
heading_of head words =
    if bytes_eq head (codes "tree") then given Tree (one_of words)
    else if bytes_eq head (codes "life") then given Life (one_of words)
    else None

-- a line by its word and its others
unfoldable pub shape_by : List ℕ → List (List ℕ) → Option RawTree
shape_by head words =
    if bytes_eq head (codes "set") then set_of words
    else if bytes_eq head (codes "del") then given (λ n. Del n.0 n.1 n.2) (three_of words)
    else if bytes_eq head (codes "get") then given (λ n. Get n.0 n.1) (two_of words)
    else if bytes_eq head (codes "copy") then given (λ n. Copy n.0 n.1) (two_of words)
    else if bytes_eq head (codes "clear") then given Clear (one_of words)
    else heading_of head words

-- a line by its words
unfoldable pub shape_from : List (List ℕ) → Option RawTree
shape_from [] = None
shape_from (head ∷ words) = shape_by head words

-- the shape of a line, where it has one
abbrev pub shape_of : List ℕ → Option RawTree
shape_of line = shape_from (slice_split (λ b. b == 32) line)
