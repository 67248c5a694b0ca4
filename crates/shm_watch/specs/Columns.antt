-- What the turns of a replay show of each identity's agents: which pieces of work they are at, and at which of its agent's word steps each of these begins, has a certain answer and ends, or in which turn its agent dies
use Rattle.std.specs.Prelude.{◌≡◌, ℕ, ◌+◌, ◌-◌, ◌^◌, ◌<◌, ◌==◌, Bool, true, false, if◌then◌else◌, min, Option, Some, None, List, [], ◌∷◌, ◌++◌, map, slice_get, slice_set}
use Rattle.std.specs.{List.AllByRecursion, Option.is_some}
use Rattle.shm_words.specs.Layout.{GeometryFits}
use Rattle.shm_graph.specs.declared.ask.Me.{Me}
use Rattle.shm_count.specs.Roots.{member}
use Rattle.shm_script.specs.{declared.line.Line.Line, Values.{Scripted, Traced}}
use Rattle.shm_table.specs.Command.{LineMayStand}
use Rattle.shm_agents.specs.{Agents.shown_by, Work.{Work, commanding, join_work, leave_work, recover_work, work_control}}
use Rattle.shm_replay.specs.Replays.{start_of}
use Rattle.shm_watch.specs.declared.shown.Shown.{Shown, TheVariants.{Word, Death}}
use Rattle.shm_watch.specs.declared.span.{Fate.{Fate, TheVariants.{Goes, Ends, Dies}}, Point.Point, Span.Span, Task.Task}
use Rattle.shm_watch.specs.declared.span.Task.TheVariants.{Join, Command, Leave, Recovery}

-- one more, in 64 bits; it stands still at its end
abbrev pub next_count : ℕ → ℕ
next_count n = min (n + 1) (2 ^ 64 - 1)

-- ---- word steps of an agent

-- before its first one
abbrev pub no_point : Point
no_point = record { turn = 0; step = 0 }

-- the next one, in this turn
abbrev pub next_point : ℕ → Point → Point
next_point turn last = record { turn = turn; step = next_count last.step }

-- the one with which a piece of work begins: its first one
abbrev pub begins_with : Option Point → Point → Option Point
begins_with None p = Some p
begins_with (Some first) p = Some first

-- the one from which on its answer is certain: the first one after which it is
abbrev pub decides_with : Option Point → Bool → Point → Option Point
decides_with None certain p = if certain then Some p else None
decides_with (Some first) certain p = Some first

-- ---- a piece of work

-- before its first word step, of an agent whose last word step was this
abbrev pub fresh : ℕ → ℕ → Task → Point → Span
fresh who agent task last = record { who = who; agent = agent; task = task; begins = None; decides = None; last = last; fate = Goes }

-- what runs
abbrev pub work_for : Me → Task → Work
work_for me Join = join_work me
work_for me (Command line) = commanding me line
work_for me Leave = leave_work me
work_for me Recovery = recover_work me

-- after a word step that found this word; what is over stays as it is
abbrev pub work_after : Work → ℕ → Work
work_after m found = if work_control.finished m then m else work_control.after m found

-- whether its answer is certain: it is a command that has made its deciding step
abbrev pub is_certain : Work → Bool
is_certain m = is_some (shown_by m)

-- whether it has ended, or its agent died: such a piece of work has a row in the table
abbrev pub is_over : Fate → Bool
is_over Goes = false
is_over Ends = true
is_over (Dies turn) = true

-- whether the client goes on behind it
abbrev pub goes_on : Task → Bool
goes_on Join = true
goes_on (Command line) = true
goes_on Leave = false
goes_on Recovery = false

-- a command's clients are of the pool
abbrev pub TaskMayStand : Me → Task → Type 0
TaskMayStand me Join = Unit {0}
TaskMayStand me (Command line) = LineMayStand me line
TaskMayStand me Leave = Unit {0}
TaskMayStand me Recovery = Unit {0}

-- ---- the agents of an identity

-- the identity, the commands that its client has not begun, the piece of work that its agents are at, and what the turns have shown of that
pub record Laned : Type 0 where
  pub me : Me
  pub left : List Line
  pub work : Work
  pub span : Span

-- such an identity is one of a pool, and its commands are of that pool
pub record LaneFits (me : Me) (left : List Line) : Type 0 where
  pub geometry : GeometryFits me.geometry
  pub who : me.who < me.geometry.clients
  pub lines : AllByRecursion (LineMayStand me) left

-- at the beginning of a piece of work
abbrev pub begin : Me → List Line → Task → ℕ → Point → Laned
begin me left task agent last = record { me = me; left = left; work = work_for me task; span = fresh me.who agent task last }

-- before the first turn: the client, which is number 0 of the agents, joins
abbrev pub first_lane : Me → List Line → Laned
first_lane me lines = begin me lines Join 0 no_point

-- at the next command of the client, and behind the last one at its leaving
abbrev pub next_lane : Laned → List Line → Laned
next_lane l [] = begin l.me [] Leave l.span.agent l.span.last
next_lane l (line ∷ left) = begin l.me left (Command line) l.span.agent l.span.last

-- what comes behind a piece of work that has ended
abbrev pub gone_on : Laned → Laned
gone_on l = if goes_on l.span.task then next_lane l l.left else l

-- what a word step shows of the piece of work, in the turn of this number, if it found this word and the piece of work ends with it or doesn't
abbrev pub span_stepped : ℕ → ℕ → Bool → Laned → Span
span_stepped turn found ends l =
    record l.span {
      begins = begins_with l.span.begins (next_point turn l.span.last);
      decides = decides_with l.span.decides (is_certain (work_after l.work found)) (next_point turn l.span.last);
      last = next_point turn l.span.last;
      fate = if ends then Ends else Goes;
    }

-- and where the agents are after it
abbrev pub with_step : ℕ → ℕ → Bool → Laned → Laned
with_step turn found ends l = record { me = l.me; left = l.left; work = work_after l.work found; span = span_stepped turn found ends l }

abbrev pub lane_stepped : ℕ → ℕ → Bool → Laned → Laned
lane_stepped turn found ends l = if ends then gone_on (with_step turn found ends l) else with_step turn found ends l

-- what the death of the agent shows, in the turn of this number; and then the next agent recovers the identity
abbrev pub span_died : ℕ → Laned → Span
span_died turn l = record l.span { fate = Dies turn }

abbrev pub lane_died : Laned → Laned
lane_died l = begin l.me l.left Recovery (next_count l.span.agent) no_point

-- a turn of the identity: what it shows, and where the agents are after it
abbrev pub span_after : ℕ → Shown → Laned → Span
span_after turn (Word who ask found ends) l = span_stepped turn found ends l
span_after turn (Death who) l = span_died turn l

abbrev pub lane_after : ℕ → Shown → Laned → Laned
lane_after turn (Word who ask found ends) l = lane_stepped turn found ends l
lane_after turn (Death who) l = lane_died l

-- ---- all identities

-- whose turn it is
abbrev pub who_of : Shown → ℕ
who_of (Word who ask found ends) = who
who_of (Death who) = who

-- where the agents of each one are after a turn: it moves those of one
abbrev pub lanes_after : ℕ → Shown → List Laned → List Laned
lanes_after turn shown [] = []
lanes_after turn shown (l ∷ ls) = if l.me.who == who_of shown then lane_after turn shown l ∷ ls else l ∷ lanes_after turn shown ls

-- and what it shows of that one
abbrev pub span_among : ℕ → Shown → List Laned → Option Span
span_among turn shown [] = None
span_among turn shown (l ∷ ls) = if l.me.who == who_of shown then Some (span_after turn shown l) else span_among turn shown ls

-- the agents of each script, in the order of the scripts, and how many turns there were
pub record Coursed : Type 0 where
  pub lanes : List Laned
  pub turns : ℕ

-- before the first turn of a trace's replay
abbrev pub lane_of : Traced → Scripted → Laned
lane_of t s = first_lane (member (start_of t).geometry s.client) s.lines

abbrev pub first_course : Traced → Coursed
first_course t = record { lanes = map (lane_of t) t.scripts; turns = 0 }

-- one turn more, and what it shows
abbrev pub course_after : Coursed → Shown → Coursed
course_after c shown = record { lanes = lanes_after (next_count c.turns) shown c.lanes; turns = next_count c.turns }

abbrev pub span_in : Coursed → Shown → Option Span
span_in c shown = span_among (next_count c.turns) shown c.lanes

abbrev pub course_by : Coursed → List Shown → Coursed
course_by c [] = c
course_by c (shown ∷ turns) = course_by (course_after c shown) turns

-- ---- what is told

-- a turn with what it shows of the piece of work that it is of
abbrev pub told_with : Shown → Option Span → List (Shown × Span)
told_with shown None = []
told_with shown (Some span) = (shown, span) ∷ []

abbrev pub told_by : Coursed → List Shown → List (Shown × Span)
told_by c [] = []
told_by c (shown ∷ turns) = told_with shown (span_in c shown) ++ told_by (course_after c shown) turns

-- of a trace's replay: its turns, each with what it shows
abbrev pub told_of : Traced → List Shown → List (Shown × Span)
told_of t = told_by (first_course t)

-- ---- where an identity stands among them

-- a turn of it moves none of these
abbrev pub IsNowhere : List Laned → ℕ → Type 0
IsNowhere ls c = (turn : ℕ) (shown : Shown) → who_of shown ≡ c → (lanes_after turn shown ls ≡ ls) × (span_among turn shown ls ≡ None)

-- a turn of it moves the one with this number
abbrev pub IsAt : List Laned → ℕ → ℕ → Type 0
IsAt ls c k = (l : Laned) × (slice_get ls k ≡ Some l) × ((turn : ℕ) (shown : Shown) → who_of shown ≡ c → (lanes_after turn shown ls ≡ slice_set ls k (lane_after turn shown l)) × (span_among turn shown ls ≡ Some (span_after turn shown l)))
