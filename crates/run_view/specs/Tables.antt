-- the text of a table of pieces of work
use Rattle.std.specs.Prelude.{◌≡◌, ℕ, ◌+◌, ◌-◌, ◌^◌, ◌≤◌, ◌&&◌, ◌==◌, Bool, false, true, if◌then◌else◌, leb, min, Option, Some, None, List, [], ◌∷◌, ◌++◌, length, replicate, codes}
use Rattle.std.specs.{Borrow.MutBor, Fmt.decimal, List.flat_map}
use Rattle.shm_script.specs.Text.{line_spelled}
use Rattle.shm_watch.specs.declared.{shown.Shown.Shown, span.{Fate.{Fate, TheVariants.{Goes, Ends, Dies}}, Point.Point, Span.Span, Task.{Task, TheVariants.{Join, Command, Leave, Recovery}}}}
use Rattle.shm_watch.specs.{Columns.is_over, Spans.{first_turn, last_turn}}
use Rattle.run_view.specs.declared.window.Window.{Window}
use Rattle.run_view.specs.Piped.{IsFrom, Sending}

-- ---- columns

-- words at the right of a column of this width
abbrev pub right : ℕ → List ℕ → List ℕ
right width words = replicate (width - length words) 32 ++ words

-- a number there in decimal, or `-` where there is none
abbrev pub number_right : ℕ → Option ℕ → List ℕ
number_right width None = right width (codes "-")
number_right width (Some n) = right width (decimal n)

-- ---- pieces of work

-- what a piece of work is
abbrev pub task_spelled : Task → List ℕ
task_spelled Join = codes "join"
task_spelled (Command line) = line_spelled line
task_spelled Leave = codes "leave"
task_spelled Recovery = codes "recover"

-- the turn of a word step, and its number among those of its agent
abbrev pub turn_of : Option Point → Option ℕ
turn_of None = None
turn_of (Some p) = Some p.turn

abbrev pub step_of : Option Point → Option ℕ
step_of None = None
step_of (Some p) = Some p.step

-- with which word step it ends, and with which its agent died: its agent's last one
abbrev pub end_of : Fate → Point → Option ℕ
end_of Goes last = Some last.step
end_of Ends last = Some last.step
end_of (Dies turn) last = None

abbrev pub death_of : Fate → Point → Option ℕ
death_of Goes last = None
death_of Ends last = None
death_of (Dies turn) last = Some last.step

-- ---- the table

-- the names of the columns
abbrev pub heads : List ℕ
heads = codes "client  agent" ++ right 9 (codes "turn") ++ right 9 (codes "begins") ++ right 9 (codes "decides") ++ right 9 (codes "ends") ++ right 9 (codes "died") ++ codes "  work\n"

-- the row of a piece of work: whose it is, the turn in which it begins, with which word steps of its agent it begins, is certain and ends, or the last one of an agent that died, and what it is
abbrev pub row_of : Span → List ℕ
row_of s =
    number_right 6 (Some s.who)
    ++ number_right 7 (Some s.agent)
    ++ number_right 9 (turn_of s.begins)
    ++ number_right 9 (step_of s.begins)
    ++ number_right 9 (step_of s.decides)
    ++ number_right 9 (end_of s.fate s.last)
    ++ number_right 9 (death_of s.fate s.last)
    ++ codes "  "
    ++ task_spelled s.task
    ++ codes "\n"

-- whether a window has one of the turns from the one to the other
abbrev pub meets : Window → ℕ → ℕ → Bool
meets w first last = leb first w.to && leb w.from last

-- a turn that ends a piece of work, or in which its agent dies, has a row where the window has a turn of that piece of work
abbrev pub span_row : Window → Span → List ℕ
span_row w span = if is_over span.fate && meets w (first_turn span) (last_turn span) then row_of span else []

abbrev pub told_row : Window → Shown × Span → List ℕ
told_row w row = span_row w row.1

-- how many turns were told, in 64 bits
abbrev pub many : List (Shown × Span) → ℕ
many rows = min (length rows) (2 ^ 64 - 1)

-- the names of the columns stand before what the first turn shows
abbrev pub heads_before : List (Shown × Span) → List ℕ
heads_before [] = []
heads_before (row ∷ rows) = heads

abbrev pub heads_at : ℕ → List ℕ
heads_at turns = if turns == 0 then heads else []

-- the table as far as these turns were told, and behind the last one how many there were
abbrev pub table_begun : Window → List (Shown × Span) → List ℕ
table_begun w rows = heads_before rows ++ flat_map (told_row w) rows

abbrev pub turns_line : ℕ → List ℕ
turns_line n = codes "\nturns " ++ decimal n ++ codes "\n"

abbrev pub steps_text : Window → List (Shown × Span) → List ℕ
steps_text w rows = heads ++ flat_map (told_row w) rows ++ turns_line (many rows)

-- the table is on its way to the sink, with these turns
pub record IsTable {A : Type 0} (held : A → Option (List ℕ)) (faults : A → ℕ) (sink : Option (MutBor A)) (window : Window) (out : Sending A) (shows : Window) (turns : ℕ) (rows : List (Shown × Span)) : Type 0 where
  pub same : shows ≡ window
  pub many : turns ≡ many rows
  pub text : IsFrom held faults sink (table_begun window rows) out
