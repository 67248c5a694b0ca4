-- the control of reading what a key has: which call comes next, and where it goes by what that call answered
use Rattle.std.specs.Prelude.{ℕ, ◌%◌, ◌<◌, Bool, true, false, Option, Some, None}
use Rattle.shm_words.specs.Layout.{GeometryFits, address_limit}
use Rattle.shm_graph.specs.{declared.ask.{Ask.Ask, Me.Me}, Laws.Control}
use Rattle.plans.specs.declared.{calls.Calls.Calls, or.Or.{Or, TheVariants.{First, Second}}, word.Word.Word}
use Rattle.plans.specs.{CallsControl.calls_of, Either.or_control, Words.word_control, Steering.Steered}
use Rattle.shm_script.specs.{declared.log.Answer.Answer, Text.line_spelled}
use Rattle.shm_script.specs.declared.log.Answer.TheVariants as answer
use Rattle.shm_script.specs.declared.line.Line.TheVariants as line
use Rattle.shm_table.specs.declared.{find.Found.{Found, TheVariants.{Absent, At}}, get.GetPoint.GetPoint}
use Rattle.shm_table.specs.declared.get.GetPoint.TheVariants.{Search, Value, Number, Missing, Known}
use Rattle.shm_table.specs.{declared.get.GetState.GetState, Find.Control.word_ask}
use Rattle.shm_table.specs.Locate.Control.{locating, locate_steered, LocateCalls, locate_control}
use Rattle.shm_table.specs.Unlatch.Control.{UnlatchCalls, unlatch_control, unlatching, unlatch_steered}

-- its calls, and what they answer
abbrev pub GetCall : Type 0
GetCall = Or LocateCalls (Or Word UnlatchCalls)

abbrev pub GetAnswer : Type 0
GetAnswer = Or Found (Or ℕ (Unit {0}))

-- its states
abbrev pub GetCalls : Type 0
GetCalls = Calls GetState GetCall

-- before its first call
abbrev pub getting : Me → ℕ → ℕ → GetState
getting me a key = record { me = me; author = a; key = key; entry = 0; block = 0; number = 0; point = Search }

-- the word that is loaded: the value word of the entry, or the number of its value block
abbrev pub get_ask : GetState → GetPoint → Ask
get_ask m Value = word_ask m.entry 1
get_ask m y = word_ask m.block 0

abbrev pub get_call : GetState → GetPoint → GetCall
get_call m Search = First (calls_of locate_steered (locating m.me m.author m.key))
get_call m Missing = Second (Second (calls_of unlatch_steered (unlatching m.me m.author)))
get_call m Known = Second (Second (calls_of unlatch_steered (unlatching m.me m.author)))
get_call m y = Second (First (record { me = m.me; ask = get_ask m y; over = false }))

-- where it goes by the word that was loaded
abbrev pub read_after : GetState → GetPoint → ℕ → GetState
read_after m Value n = record m { block = n % address_limit; point = Number }
read_after m y n = record m { number = n; point = Known }

abbrev pub get_after : GetState → GetAnswer → GetState
get_after m (First (At e b w)) = record m { entry = e % address_limit; point = Value }
get_after m (First (Absent home first)) = record m { point = Missing }
get_after m (Second (First n)) = read_after m m.point n
get_after m (Second (Second done)) = m

-- what it answers once the latch is given back
abbrev pub get_answer : GetState → GetPoint → Answer
get_answer m Known = answer.Value m.number m.block
get_answer m y = answer.Missing

abbrev pub get_turns : GetState → GetAnswer → Option Answer
get_turns m (Second (Second done)) = Some (get_answer m m.point)
get_turns m _ = None

abbrev pub is_search : GetPoint → Bool
is_search Search = true
is_search y = false

-- what the control keeps in range
pub record GetInRange (m : GetState) : Type 0 where
  pub geometry : GeometryFits m.me.geometry
  pub who : m.me.who < m.me.geometry.clients
  pub author : m.author < m.me.geometry.clients
  pub entry : m.entry < address_limit
  pub block : m.block < address_limit

-- the control of its calls
abbrev pub get_parts : Control GetCall GetAnswer
get_parts = or_control locate_control (or_control word_control unlatch_control)

-- what the plan does: its identity and its line, its calls, and where it goes by their answers
abbrev pub get_steered : Steered GetState GetCall GetAnswer Answer
get_steered =
    record {
      me = λ m. m.me;
      line = λ m. line_spelled (line.Get m.author m.key);
      first = λ m. is_search m.point;
      start = λ m. record m { entry = 0; block = 0; number = 0; point = Search };
      call = λ m. get_call m m.point;
      after = get_after;
      turns = get_turns;
    }
