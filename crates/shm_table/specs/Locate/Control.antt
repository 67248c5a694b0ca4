-- the control of taking a latch and looking for a key: which call comes next, and where it goes by what that call answered
use Rattle.std.specs.Prelude.{ℕ, ◌<◌, Bool, true, false, Option, Some, None, Result, Ok, Err, []}
use Rattle.shm_words.specs.Layout.{GeometryFits}
use Rattle.shm_graph.specs.{declared.ask.Me.Me, Laws.Control}
use Rattle.plans.specs.declared.{calls.Calls.Calls, or.Or.{Or, TheVariants.{First, Second}}, word.Word.Word}
use Rattle.plans.specs.{CallsControl.{calls_control, calls_of}, Either.or_control, Words.word_control, Steering.Steered}
use Rattle.shm_ref.specs.{declared.{answer.Busy.Busy, hold.HoldState.HoldState}, Hold.Control.{holding, hold_steered}}
use Rattle.shm_ref.specs.Machines.{hold}
use Rattle.shm_table.specs.declared.{find.{FindState.FindState, Found.Found}, locate.LocatePoint.LocatePoint}
use Rattle.shm_table.specs.declared.locate.{LocatePoint.TheVariants.{Take, Again, Search}, LocateState.LocateState}
use Rattle.shm_table.specs.Find.Control.{finding, find_steered}

-- a search as a call, and its control
abbrev pub FindCalls : Type 0
FindCalls = Calls FindState Word

abbrev pub find_control : Control FindCalls Found
find_control = calls_control word_control find_steered

-- its calls, and what they answer
abbrev pub LocateCall : Type 0
LocateCall = Or (Calls HoldState Word) FindCalls

abbrev pub LocateAnswer : Type 0
LocateAnswer = Or (Result (Unit {0}) Busy) Found

-- before its first call
abbrev pub locating : Me → ℕ → ℕ → LocateState
locating me a key = record { me = me; author = a; key = key; point = Take }

abbrev pub locate_call : LocateState → LocatePoint → LocateCall
locate_call m Search = Second (calls_of find_steered (finding m.me m.author m.key))
locate_call m y = First (calls_of hold_steered (holding m.me m.author))

abbrev pub locate_after : LocateState → LocateAnswer → LocateState
locate_after m (First (Ok done)) = record m { point = Search }
locate_after m (First (Err busy)) = record m { point = Again }
locate_after m (Second found) = m

abbrev pub locate_turns : LocateState → LocateAnswer → Option Found
locate_turns m (First a) = None
locate_turns m (Second found) = Some found

abbrev pub is_take : LocatePoint → Bool
is_take Take = true
is_take y = false

-- what the control keeps in range
pub record LocateInRange (m : LocateState) : Type 0 where
  pub geometry : GeometryFits m.me.geometry
  pub who : m.me.who < m.me.geometry.clients
  pub author : m.author < m.me.geometry.clients

-- the control of its calls
abbrev pub locate_parts : Control LocateCall LocateAnswer
locate_parts = or_control hold find_control

-- what the plan does: its identity and its line, its calls, and where it goes by their answers
abbrev pub locate_steered : Steered LocateState LocateCall LocateAnswer Found
locate_steered =
    record {
      me = λ m. m.me;
      line = λ m. [];
      first = λ m. is_take m.point;
      start = λ m. record m { point = Take };
      call = λ m. locate_call m m.point;
      after = locate_after;
      turns = locate_turns;
    }

-- it as a call of larger machines, and its control
abbrev pub LocateCalls : Type 0
LocateCalls = Calls LocateState LocateCall

abbrev pub locate_control : Control LocateCalls Found
locate_control = calls_control locate_parts locate_steered
