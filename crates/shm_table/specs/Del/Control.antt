-- the control of removing a key of the own table: which call comes next, and where it goes by what that call answered
use Rattle.std.specs.Prelude.{ℕ, ◌%◌, ◌<◌, Bool, true, false, Option, Some, None, Result, Ok, Err}
use Rattle.shm_words.specs.Layout.{GeometryFits, address_limit}
use Rattle.shm_graph.specs.{declared.ask.Me.Me, Laws.Control}
use Rattle.plans.specs.{declared.{calls.Calls.Calls, or.Or.{Or, TheVariants.{First, Second}}}, CallsControl.calls_of}
use Rattle.plans.specs.{Either.or_control, Steering.Steered}
use Rattle.shm_count.specs.declared.answer.UpFault.{UpFault}
use Rattle.shm_script.specs.{declared.log.Answer.Answer, Text.line_spelled}
use Rattle.shm_script.specs.declared.log.Answer.TheVariants as answer
use Rattle.shm_script.specs.declared.line.Line.TheVariants as line
use Rattle.shm_table.specs.declared.del.{DelPoint.{DelPoint, TheVariants.{Search, Cut, Back}}, DelState.DelState}
use Rattle.shm_table.specs.{declared.find.Found.{Found, TheVariants.{Absent, At}}, Answers.{fault_answer, raised_fault}}
use Rattle.shm_table.specs.Locate.Control.{locating, locate_steered, LocateCalls, locate_control}
use Rattle.shm_table.specs.Unlatch.Control.{UnlatchCalls, unlatch_control, unlatching, unlatch_steered}
use Rattle.shm_table.specs.Unlink.Control.{unlinking, unlink_steered, UnlinkCalls, unlink_control}

-- its calls, and what they answer
abbrev pub DelCall : Type 0
DelCall = Or LocateCalls (Or UnlinkCalls UnlatchCalls)

abbrev pub DelCallAnswer : Type 0
DelCallAnswer = Or Found (Or (Result (Unit {0}) UpFault) (Unit {0}))

-- its states
abbrev pub DelCalls : Type 0
DelCalls = Calls DelState DelCall

-- before its first call
abbrev pub deleting : Me → ℕ → DelState
deleting me key = record { me = me; key = key; entry = 0; before = 0; word = 0; answer = answer.Missing; point = Search }

abbrev pub del_call_at : DelState → DelPoint → DelCall
del_call_at m Search = First (calls_of locate_steered (locating m.me m.me.who m.key))
del_call_at m Cut = Second (First (calls_of unlink_steered (unlinking m.me m.entry m.before m.word)))
del_call_at m Back = Second (Second (calls_of unlatch_steered (unlatching m.me m.me.who)))

-- ---- where it goes

-- by what the search found
abbrev pub found_after : DelState → Found → DelState
found_after m (Absent home first) = record m { answer = answer.Missing; point = Back }
found_after m (At entry before word) = record m { entry = entry % address_limit; before = before % address_limit; word = word; point = Cut }

-- once the entry is gone, or is there still
abbrev pub cut_after : DelState → Result (Unit {0}) UpFault → DelState
cut_after m (Ok done) = record m { answer = answer.Ok; point = Back }
cut_after m (Err f) = record m { answer = fault_answer (raised_fault f); point = Back }

abbrev pub del_after : DelState → DelCallAnswer → DelState
del_after m (First found) = found_after m found
del_after m (Second (First a)) = cut_after m a
del_after m (Second (Second done)) = m

abbrev pub del_turns : DelState → DelCallAnswer → Option Answer
del_turns m (First found) = None
del_turns m (Second (First a)) = None
del_turns m (Second (Second done)) = Some m.answer

abbrev pub is_search : DelPoint → Bool
is_search Search = true
is_search y = false

-- what the control keeps in range
pub record DelInRange (m : DelState) : Type 0 where
  pub geometry : GeometryFits m.me.geometry
  pub who : m.me.who < m.me.geometry.clients
  pub entry : m.entry < address_limit
  pub before : m.before < address_limit

-- the control of its calls
abbrev pub del_parts : Control DelCall DelCallAnswer
del_parts = or_control locate_control (or_control unlink_control unlatch_control)

-- what the plan does: its identity and its line, its calls, and where it goes by their answers
abbrev pub del_steered : Steered DelState DelCall DelCallAnswer Answer
del_steered =
    record {
      me = λ m. m.me;
      line = λ m. line_spelled (line.Del m.key);
      first = λ m. is_search m.point;
      start = λ m. deleting m.me m.key;
      call = λ m. del_call_at m m.point;
      after = del_after;
      turns = del_turns;
    }
