-- the control of a leaving
use Rattle.std.specs.Prelude.{ℕ, ◌+◌, ◌<◌, Bool, true, false, ◌==◌, if◌then◌else◌, Option, Some, None, Result, Ok, Err, List, codes}
use Rattle.shm_words.specs.Layout.{GeometryFits, address}
use Rattle.shm_words.specs.declared.place.Place.TheVariants as place
use Rattle.shm_graph.specs.{declared.ask.{Ask.Ask, Me.Me}, Laws.Control}
use Rattle.shm_graph.specs.declared.ask.Ask.TheVariants as ask
use Rattle.plans.specs.declared.{calls.Calls.Calls, or.Or.{Or, TheVariants.{First, Second}}, word.Word.Word}
use Rattle.plans.specs.{CallsControl.{calls_control, calls_of}, Either.or_control, Words.word_control, Steering.Steered}
use Rattle.shm_count.specs.declared.answer.EraSpent.{EraSpent}
use Rattle.shm_ref.specs.declared.drop_roots.RootsState.{RootsState}
use Rattle.shm_ref.specs.DropRoots.Control.{RootsCall, drop_root, roots_steered}
use Rattle.shm_recover.specs.declared.leave.LeavePoint.{LeavePoint, TheVariants.{Roots, Look, Give, Status}}
use Rattle.shm_recover.specs.declared.leave.LeaveState.{LeaveState}

-- its calls, and what they answer
abbrev pub LeaveCall : Type 0
LeaveCall = Or (Calls RootsState RootsCall) Word

abbrev pub LeaveAnswer : Type 0
LeaveAnswer = Or (Result (Unit {0}) EraSpent) ℕ

-- the bytes of `leave`
abbrev pub leave_line : List ℕ
leave_line = codes "leave"

-- the control of its calls
abbrev pub leave_parts : Control LeaveCall LeaveAnswer
leave_parts = or_control (calls_control drop_root roots_steered) word_control

-- before its first call
abbrev pub leaving : Me → LeaveState
leaving me = record { me = me; segment = 0; point = Roots }

-- the word step at a point
abbrev pub leave_ask : LeaveState → LeavePoint → Ask
leave_ask m Give = ask.Store (address m.me.geometry (place.Segment m.segment)) 0
leave_ask m Status = ask.Store (address m.me.geometry (place.Status m.me.who)) 3
leave_ask m y = ask.Load (address m.me.geometry (place.Segment m.segment))

abbrev pub leave_call_at : LeaveState → LeavePoint → LeaveCall
leave_call_at m Roots = First (calls_of roots_steered (record { me = m.me; root = 0 }))
leave_call_at m y = Second (record { me = m.me; ask = leave_ask m y; over = false })

-- on to the next segment, and after the last one to the status
abbrev pub leave_next : LeaveState → LeaveState
leave_next m = if m.segment + 1 == m.me.geometry.segments then record m { point = Status } else record m { segment = m.segment + 1; point = Look }

abbrev pub leave_after_word : LeaveState → LeavePoint → ℕ → LeaveState
leave_after_word m Look n = if n == m.me.who + 1 then record m { point = Give } else leave_next m
leave_after_word m Give n = leave_next m
leave_after_word m y n = m

abbrev pub leave_after : LeaveState → LeaveAnswer → LeaveState
leave_after m (First (Ok done)) = record m { point = Look }
leave_after m (First (Err e)) = m
leave_after m (Second n) = leave_after_word m m.point n

abbrev pub is_roots : LeavePoint → Bool
is_roots Roots = true
is_roots y = false

abbrev pub is_last : LeavePoint → Bool
is_last Roots = true
is_last Status = true
is_last y = false

abbrev pub leave_turns : LeaveState → LeaveAnswer → Option (Result (Unit {0}) EraSpent)
leave_turns m (First (Ok done)) = None
leave_turns m (First (Err e)) = Some (Err e)
leave_turns m (Second n) = if is_last m.point then Some (Ok tt) else None

-- what the control keeps in range
pub record LeaveInRange (m : LeaveState) : Type 0 where
  pub geometry : GeometryFits m.me.geometry
  pub who : m.me.who < m.me.geometry.clients
  pub segment : m.segment < m.me.geometry.segments

-- what the plan does: its identity and its line, its calls, and where it goes by their answers
abbrev pub leave_steered : Steered LeaveState LeaveCall LeaveAnswer (Result (Unit {0}) EraSpent)
leave_steered =
    record {
      me = λ m. m.me;
      line = λ m. leave_line;
      first = λ m. is_roots m.point;
      start = λ m. record m { segment = 0; point = Roots };
      call = λ m. leave_call_at m m.point;
      after = leave_after;
      turns = leave_turns;
    }
