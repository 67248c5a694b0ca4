-- the control of a drain: which call comes next, and where it goes by what that call answered
use Rattle.std.specs.Prelude.{ℕ, ◌+◌, ◌%◌, ◌^◌, ◌<◌, Bool, true, false, ◌==◌, nat_lt, if◌then◌else◌, Option, Some, None, Result, Ok, Err, List, codes}
use Rattle.shm_words.specs.Layout.{GeometryFits, address}
use Rattle.shm_words.specs.declared.place.Place.TheVariants as place
use Rattle.shm_graph.specs.{declared.ask.{Ask.{Ask, TheVariants.Load}, Me.Me}, Laws.Control}
use Rattle.plans.specs.declared.{calls.Calls.Calls, or.Or.{Or, TheVariants.{First, Second}}, word.Word.Word}
use Rattle.plans.specs.{CallsControl.{calls_control, calls_of}, Either.or_control, Words.word_control, Steering.Steered}
use Rattle.shm_count.specs.declared.answer.EraSpent.{EraSpent}
use Rattle.shm_queue.specs.declared.{answer.TakeFault.TakeFault, drain.DrainPoint.DrainPoint}
use Rattle.shm_queue.specs.declared.drain.{DrainPoint.TheVariants.{Status, Item}, DrainState.DrainState}
use Rattle.shm_queue.specs.declared.take.TakeState.{TakeState}
use Rattle.shm_queue.specs.Take.Control.{TakeCall, take_parts, taking, take_steered}
use Rattle.shm_queue.specs.declared.answer.TakeFault.TheVariants as fault

-- a take as a call, and its control
abbrev pub TakeCalls : Type 0
TakeCalls = Calls TakeState TakeCall

abbrev pub take_control : Control TakeCalls (Result (Unit {0}) TakeFault)
take_control = calls_control take_parts take_steered

-- its calls, and what they answer
abbrev pub DrainCall : Type 0
DrainCall = Or Word TakeCalls

abbrev pub DrainAnswer : Type 0
DrainAnswer = Or ℕ (Result (Unit {0}) TakeFault)

-- the bytes of `drain`
abbrev pub drain_line : List ℕ
drain_line = codes "drain"

-- before its first call
abbrev pub draining : Me → DrainState
draining me = record { me = me; from = 0; taken = 0; point = Status }

abbrev pub drain_ask : DrainState → Ask
drain_ask m = Load (address m.me.geometry (place.Status m.me.who))

abbrev pub drain_call_at : DrainState → DrainPoint → DrainCall
drain_call_at m Status = First (record { me = m.me; ask = drain_ask m; over = false })
drain_call_at m Item = Second (calls_of take_steered (taking m.me m.from))

-- the first sender, and the one after s
abbrev pub first_from : ℕ → ℕ
first_from c = if c == 0 then 1 else 0

abbrev pub next_from : ℕ → ℕ → ℕ
next_from c s = if s + 1 == c then s + 2 else s + 1

-- it turns to a sender, or has turned to all
abbrev pub turned : DrainState → ℕ → DrainState
turned m s = if nat_lt s m.me.geometry.clients then record m { from = s; point = Item } else m

abbrev pub turned_answer : DrainState → ℕ → Option (Result ℕ EraSpent)
turned_answer m s = if nat_lt s m.me.geometry.clients then None else Some (Ok m.taken)

abbrev pub drain_after : DrainState → DrainAnswer → DrainState
drain_after m (First n) = turned m (first_from m.me.who)
drain_after m (Second (Ok done)) = record m { taken = (m.taken + 1) % 2 ^ 64; point = Item }
drain_after m (Second (Err (fault.Empty n))) = turned m (next_from m.me.who m.from)
drain_after m (Second (Err (fault.EraSpent e))) = m

abbrev pub drain_turns : DrainState → DrainAnswer → Option (Result ℕ EraSpent)
drain_turns m (First n) = turned_answer m (first_from m.me.who)
drain_turns m (Second (Ok done)) = None
drain_turns m (Second (Err (fault.Empty n))) = turned_answer m (next_from m.me.who m.from)
drain_turns m (Second (Err (fault.EraSpent e))) = Some (Err (record { era = e }))

abbrev pub is_status : DrainPoint → Bool
is_status Status = true
is_status y = false

-- what the control keeps in range
pub record DrainInRange (m : DrainState) : Type 0 where
  pub geometry : GeometryFits m.me.geometry
  pub who : m.me.who < m.me.geometry.clients
  pub from : m.from < m.me.geometry.clients

-- the control of its calls
abbrev pub drain_parts : Control DrainCall DrainAnswer
drain_parts = or_control word_control take_control

-- what the plan does: its identity and its line, its calls, and where it goes by their answers
abbrev pub drain_steered : Steered DrainState DrainCall DrainAnswer (Result ℕ EraSpent)
drain_steered =
    record {
      me = λ m. m.me;
      line = λ m. drain_line;
      first = λ m. is_status m.point;
      start = λ m. record m { from = 0; taken = 0; point = Status };
      call = λ m. drain_call_at m m.point;
      after = drain_after;
      turns = drain_turns;
    }
