-- the control of sending what an own key has: which call comes next, and where it goes by what that call answered
use Rattle.std.specs.Prelude.{ℕ, ◌%◌, ◌<◌, Bool, true, false, Option, Some, None, Result, Ok, Err}
use Rattle.shm_words.specs.Layout.{GeometryFits, address_limit}
use Rattle.shm_graph.specs.{declared.ask.Me.Me, Laws.Control}
use Rattle.plans.specs.declared.{calls.Calls.Calls, or.Or.{Or, TheVariants.{First, Second}}, word.Word.Word}
use Rattle.plans.specs.{CallsControl.calls_of, Either.or_control, Words.word_control, Steering.Steered}
use Rattle.shm_queue.specs.declared.answer.SendFault.{SendFault, TheVariants.{QueueFull, EraSpent, CountFull}}
use Rattle.shm_queue.specs.{declared.send.SendState.SendState, Machines.send as send_control}
use Rattle.shm_queue.specs.Send.Control.{SendCall, sending, send_steered}
use Rattle.shm_script.specs.{declared.log.Answer.Answer, Text.line_spelled}
use Rattle.shm_script.specs.declared.log.Answer.TheVariants as answer
use Rattle.shm_script.specs.declared.line.Line.TheVariants as line
use Rattle.shm_table.specs.declared.{find.Found.{Found, TheVariants.{Absent, At}}, send_key.SendKeyPoint.SendKeyPoint}
use Rattle.shm_table.specs.declared.send_key.SendKeyPoint.TheVariants.{Search, Value, Send, Give}
use Rattle.shm_table.specs.{declared.send_key.SendKeyState.SendKeyState, Find.Control.word_ask}
use Rattle.shm_table.specs.Locate.Control.{locating, locate_steered, LocateCalls, locate_control}
use Rattle.shm_table.specs.Unlatch.Control.{UnlatchCalls, unlatch_control, unlatching, unlatch_steered}

-- its calls, and what they answer
abbrev pub SendKeyCall : Type 0
SendKeyCall = Or LocateCalls (Or Word (Or (Calls SendState SendCall) UnlatchCalls))

abbrev pub SendKeyAnswer : Type 0
SendKeyAnswer = Or Found (Or ℕ (Or (Result ℕ SendFault) (Unit {0})))

-- its states
abbrev pub SendKeyCalls : Type 0
SendKeyCalls = Calls SendKeyState SendKeyCall

-- before its first call
abbrev pub sending_key : Me → ℕ → ℕ → SendKeyState
sending_key me i key = record { me = me; to = i; key = key; entry = 0; block = 0; outcome = answer.Missing; point = Search }

abbrev pub send_key_call : SendKeyState → SendKeyPoint → SendKeyCall
send_key_call m Search = First (calls_of locate_steered (locating m.me m.me.who m.key))
send_key_call m Value = Second (First (record { me = m.me; ask = word_ask m.entry 1; over = false }))
send_key_call m Send = Second (Second (First (calls_of send_steered (sending m.me m.to m.block))))
send_key_call m Give = Second (Second (Second (calls_of unlatch_steered (unlatching m.me m.me.who))))

-- what it answers once the latch is given back, by whether the block was sent
abbrev pub sent_answer : Result ℕ SendFault → Answer
sent_answer (Ok n) = answer.Ok
sent_answer (Err (QueueFull h n)) = answer.QueueFull h n
sent_answer (Err (EraSpent e)) = answer.EraSpent e
sent_answer (Err (CountFull b n)) = answer.CountFull b n

abbrev pub send_key_after : SendKeyState → SendKeyAnswer → SendKeyState
send_key_after m (First (At e b w)) = record m { entry = e % address_limit; point = Value }
send_key_after m (First (Absent home first)) = record m { outcome = answer.Missing; point = Give }
send_key_after m (Second (First n)) = record m { block = n % address_limit; point = Send }
send_key_after m (Second (Second (First a))) = record m { outcome = sent_answer a; point = Give }
send_key_after m (Second (Second (Second done))) = m

abbrev pub send_key_turns : SendKeyState → SendKeyAnswer → Option Answer
send_key_turns m (First found) = None
send_key_turns m (Second (First n)) = None
send_key_turns m (Second (Second (First a))) = None
send_key_turns m (Second (Second (Second done))) = Some m.outcome

abbrev pub is_search : SendKeyPoint → Bool
is_search Search = true
is_search y = false

-- what the control keeps in range
pub record SendKeyInRange (m : SendKeyState) : Type 0 where
  pub geometry : GeometryFits m.me.geometry
  pub who : m.me.who < m.me.geometry.clients
  pub to : m.to < m.me.geometry.clients
  pub entry : m.entry < address_limit
  pub block : m.block < address_limit

-- the control of its calls
abbrev pub send_key_parts : Control SendKeyCall SendKeyAnswer
send_key_parts = or_control locate_control (or_control word_control (or_control send_control unlatch_control))

-- what the plan does: its identity and its line, its calls, and where it goes by their answers
abbrev pub send_key_steered : Steered SendKeyState SendKeyCall SendKeyAnswer Answer
send_key_steered =
    record {
      me = λ m. m.me;
      line = λ m. line_spelled (line.Send m.to m.key);
      first = λ m. is_search m.point;
      start = λ m. sending_key m.me m.to m.key;
      call = λ m. send_key_call m m.point;
      after = send_key_after;
      turns = send_key_turns;
    }
