-- Scripts that are read line by line: where a line may stand, the ranges of its numbers, and the first fault.
use Rattle.std.specs.Prelude.{ℕ, ◌+◌, ◌^◌, Bool, true, false, not, List, [], ◌∷◌, ◌++◌, length, Option, Some, None, Result, Ok, Err, nat_lt, ◌==◌, if◌then◌else◌}
use Rattle.std.specs.List.{slice_split}
use Rattle.shm_script.specs.declared.fault.{TraceKind.{TraceKind, TheVariants.{Syntax, Range}}, TraceFault.TraceFault}
use Rattle.shm_script.specs.{Faults.{below, between, fault_at, key_of, limit_fault}, Shapes.{both, given}}
use Rattle.shm_tree.specs.declared.{line.TreeLine.TreeLine, shape.RawTree.RawTree, judge.TreePlace.TreePlace}
use Rattle.shm_tree.specs.{declared.judge.FitTree.FitTree, Shapes.shape_of}
use Rattle.shm_tree.specs.declared.line.TreeLine.TheVariants as lines
use Rattle.shm_tree.specs.declared.shape.RawTree.TheVariants as raw
use Rattle.shm_tree.specs.declared.judge.TreePlace.TheVariants as place
use Rattle.shm_tree.specs.declared.judge.FitTree.TheVariants as fit

-- a script without where it lies in memory: how many segments there are, a life where one is told, and lines
pub record TreeScripted : Type 0 where
  pub segments : ℕ
  pub life : Option ℕ
  pub lines : List TreeLine

abbrev pub is_start : TreePlace → Bool
is_start place.Start = true
is_start _ = false

abbrev pub is_tree : TreePlace → Bool
is_tree place.Tree = true
is_tree _ = false

-- the number of segments stands first, a life behind it alone, and lines behind either
abbrev pub may_stand : TreePlace → RawTree → Bool
may_stand p (raw.Tree n) = is_start p
may_stand p (raw.Life n) = is_tree p
may_stand p _ = not (is_start p)

-- a register
abbrev pub register_of : Option ℕ → Option ℕ
register_of n = below 12 n

-- two registers
abbrev pub registers_of : Option ℕ → Option ℕ → Option (ℕ × ℕ)
registers_of a b = both (λ x y. (x, y)) (register_of a) (register_of b)

-- a line with its numbers in range: 1 to 256 segments, a life of 1 to 2^40, registers below 12, keys of 32 bits and numbers of 64
abbrev pub fit_of : RawTree → Option FitTree
fit_of (raw.Tree n) = given fit.Tree (between 1 256 n)
fit_of (raw.Life n) = given fit.Life (between 1 (2 ^ 40) n)
fit_of (raw.Set a b k n) = both (λ (x : ℕ × ℕ) (y : ℕ × ℕ). fit.Line (lines.Set x.0 x.1 y.0 y.1)) (registers_of a b) (both (λ x y. (x, y)) (key_of k) n)
fit_of (raw.Del a b k) = both (λ (x : ℕ × ℕ) (y : ℕ). fit.Line (lines.Del x.0 x.1 y)) (registers_of a b) (key_of k)
fit_of (raw.Get a k) = both (λ x y. fit.Line (lines.Get x y)) (register_of a) (key_of k)
fit_of (raw.Copy a b) = given (λ (x : ℕ × ℕ). fit.Line (lines.Copy x.0 x.1)) (registers_of a b)
fit_of (raw.Clear a) = given (λ x. fit.Line (lines.Clear x)) (register_of a)

abbrev pub ranged : Option FitTree → Result FitTree TraceKind
ranged None = Err Range
ranged (Some f) = Ok f

-- the kinds of fault in their order
abbrev pub judged : TreePlace → Option RawTree → Result FitTree TraceKind
judged p None = Err Syntax
judged p (Some line) = if may_stand p line then ranged (fit_of line) else Err Syntax

-- what was read: which line was the last one, and the script so far
pub record Drafted : Type 0 where
  pub place : TreePlace
  pub script : TreeScripted

-- nothing was read
abbrev pub draft_none : Drafted
draft_none = record { place = place.Start; script = record { segments = 0; life = None; lines = [] } }

-- behind one more line
abbrev pub draft_after : Drafted → FitTree → Drafted
draft_after d (fit.Tree n) = record { place = place.Tree; script = record d.script { segments = n } }
draft_after d (fit.Life n) = record { place = place.Body; script = record d.script { life = Some n } }
draft_after d (fit.Line l) = record { place = place.Body; script = record d.script { lines = d.script.lines ++ l ∷ [] } }

-- behind the last line feed nothing may stand, and a line has to be before it
abbrev pub may_end : TreePlace → List ℕ → Bool
may_end place.Start rest = false
may_end p [] = true
may_end p _ = false

abbrev pub drafted : Drafted → Result FitTree TraceKind → Result Drafted TraceKind
drafted d (Ok f) = Ok (draft_after d f)
drafted d (Err kind) = Err kind

-- behind one more line, where it has no fault
abbrev pub drafted_line : Drafted → List ℕ → Result Drafted TraceKind
drafted_line d line = drafted d (judged d.place (shape_of line))

-- a fault of this line, or what comes behind it
abbrev pub read_or : ℕ → Result Drafted TraceKind → (Drafted → Result TreeScripted TraceFault) → Result TreeScripted TraceFault
read_or at (Err kind) behind = Err (fault_at at kind)
read_or at (Ok d) behind = behind d

-- the script that lines from `at` on leave, or the first fault; what is behind the last line feed is the last of them
unfoldable pub reading : Drafted → ℕ → List (List ℕ) → Result TreeScripted TraceFault
reading d at [] = Ok d.script
reading d at (rest ∷ []) = if may_end d.place rest then Ok d.script else Err (fault_at at Syntax)
reading d at (line ∷ next ∷ others) = read_or at (drafted_line d line) (λ e. reading e (at + 1) (next ∷ others))

-- the script that bytes spell, or their first fault: at most 1,048,576 bytes
abbrev pub script_of : List ℕ → Result TreeScripted TraceFault
script_of bytes = if nat_lt 1048576 (length bytes) then Err (limit_fault bytes) else reading draft_none 1 (slice_split (λ b. b == 10) bytes)
