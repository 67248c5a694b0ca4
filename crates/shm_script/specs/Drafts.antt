-- A trace that is read line by line.
use Rattle.std.specs.Prelude.{◌≡◌, ℕ, ◌+◌, Bool, false, List, [], ◌∷◌, ◌++◌, length, Option, Some, Result, Ok, Err, nat_lt, ◌==◌, if◌then◌else◌}
use Rattle.std.specs.List.{slice_split}
use Rattle.shm_script.specs.declared.{line.{Line.Line, Item.Item}, fit.{TracePlace.TracePlace, FitLine.FitLine}}
use Rattle.shm_script.specs.declared.fault.{TraceKind.{TraceKind, TheVariants.Syntax}, TraceFault.TraceFault}
use Rattle.shm_script.specs.{declared.fault.ParseStop.ParseStop, Values.{Scripted, Traced}, Shapes.shape_of}
use Rattle.shm_script.specs.Faults.{Seen, Fit, FitPool, FitOrder, FitClient, FitLife, FitCommand, judged, seen_after, seen_none, fault_at, limit_fault, may_end}
use Rattle.shm_script.specs.declared.fit.TracePlace.TheVariants as place
use Rattle.shm_script.specs.declared.fit.FitLine.TheVariants as fit
use Rattle.shm_script.specs.declared.fault.ParseStop.TheVariants as stop

-- what was read: what it tells of the next line, the scripts that are whole, and the lives and lines of the one that goes on
pub record Drafted : Type 0 where
  pub seen : Seen
  pub segments : ℕ
  pub wide : Bool
  pub order : List Item
  pub scripts : List Scripted
  pub life : List ℕ
  pub lines : List Line

-- without where it lies in memory
abbrev pub fit_seen : FitLine → Fit
fit_seen (fit.Pool wide clients segments) = FitPool wide clients segments
fit_seen (fit.Order items) = FitOrder items.items
fit_seen (fit.Client c) = FitClient c
fit_seen (fit.Life numbers) = FitLife numbers.items
fit_seen (fit.Command line) = FitCommand line

-- nothing was read
abbrev pub draft_none : Drafted
draft_none = record { seen = seen_none; segments = 0; wide = false; order = []; scripts = []; life = []; lines = [] }

-- the script that goes on
abbrev pub open_script : Drafted → Scripted
open_script d = record { client = d.seen.me; life = d.life; lines = d.lines }

-- the scripts, where the last line was of this kind
abbrev pub scripts_at : TracePlace → Drafted → List Scripted
scripts_at place.Client d = d.scripts ++ open_script d ∷ []
scripts_at place.Body d = d.scripts ++ open_script d ∷ []
scripts_at _ d = d.scripts

-- all scripts, with the one that goes on
abbrev pub all_scripts : Drafted → List Scripted
all_scripts d = scripts_at d.seen.place d

-- behind one more line
abbrev pub draft_after : Drafted → Fit → Drafted
draft_after d (FitPool wide clients segments) = record d { seen = seen_after d.seen (FitPool wide clients segments); segments = segments; wide = wide }
draft_after d (FitOrder items) = record d { seen = seen_after d.seen (FitOrder items); order = items }
draft_after d (FitClient c) = record d { seen = seen_after d.seen (FitClient c); scripts = all_scripts d; life = []; lines = [] }
draft_after d (FitLife numbers) = record d { seen = seen_after d.seen (FitLife numbers); life = numbers }
draft_after d (FitCommand line) = record d { seen = seen_after d.seen (FitCommand line); lines = d.lines ++ line ∷ [] }

-- behind one more line that was judged
abbrev pub drafted : Drafted → Result Fit TraceKind → Result Drafted TraceKind
drafted d (Ok f) = Ok (draft_after d f)
drafted d (Err kind) = Err kind

-- behind one more line, where it has no fault
abbrev pub drafted_line : Drafted → List ℕ → Result Drafted TraceKind
drafted_line d line = drafted d (judged d.seen (shape_of line))

-- the trace that was read
abbrev pub traced : Drafted → Traced
traced d = record { clients = d.seen.clients; segments = d.segments; wide = d.wide; order = d.order; scripts = all_scripts d }

-- a fault of this line, or what comes behind it
abbrev pub read_or : ℕ → Result Drafted TraceKind → (Drafted → Result Traced TraceFault) → Result Traced TraceFault
read_or at (Err kind) behind = Err (fault_at at kind)
read_or at (Ok d) behind = behind d

-- the trace that lines from `at` on leave, or the first fault
unfoldable pub reading : Drafted → ℕ → List (List ℕ) → Result Traced TraceFault
reading d at [] = Ok (traced d)
reading d at (rest ∷ []) = if may_end d.seen.place rest then Ok (traced d) else Err (fault_at at Syntax)
reading d at (line ∷ next ∷ others) = read_or at (drafted_line d line) (λ e. reading e (at + 1) (next ∷ others))

-- the trace of bytes, or their first fault
abbrev pub trace_of : List ℕ → Result Traced TraceFault
trace_of bytes = if nat_lt 1048576 (length bytes) then Err (limit_fault bytes) else reading draft_none 1 (slice_split (λ b. b == 10) bytes)

-- an error of reading: no memory, or the fault
abbrev pub Stops : {A : Type 0} → ParseStop → Result A TraceFault → Type 0
Stops (stop.Memory e) read = Unit {0}
Stops (stop.Fault f) read = read ≡ Err f

-- an error at a line: no memory, or the kind
abbrev pub StopsAt : {A : Type 0} → ℕ → ParseStop → Result A TraceKind → Type 0
StopsAt at (stop.Memory e) read = Unit {0}
StopsAt at (stop.Fault f) read = (f.line ≡ at) × (read ≡ Err f.kind)

-- an error of parsing: no memory, or this fault
abbrev pub IsFault : ParseStop → Option TraceFault → Type 0
IsFault (stop.Memory e) fault = Unit {0}
IsFault (stop.Fault f) fault = fault ≡ Some f

-- an error of parsing: no memory
abbrev pub IsMemory : ParseStop → Type 0
IsMemory (stop.Memory e) = Unit {0}
IsMemory (stop.Fault f) = ⊥
