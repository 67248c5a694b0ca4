-- the control of a send: which call comes next, and where it goes by what that call answered
use Rattle.std.specs.Prelude.{ℕ, ◌+◌, ◌-◌, ◌%◌, ◌^◌, ◌<◌, Bool, true, false, ◌==◌, if◌then◌else◌, Option, Some, None, Result, Ok, Err, []}
use Rattle.shm_words.specs.Layout.{GeometryFits, address, address_limit}
use Rattle.shm_words.specs.declared.place.Place.TheVariants as place
use Rattle.shm_graph.specs.{declared.ask.Me.Me, Laws.Control}
use Rattle.shm_graph.specs.declared.ask.Ask.TheVariants as ask
use Rattle.plans.specs.{declared.{or.Or.{Or, TheVariants.{First, Second}}, word.Word.Word}, Either.or_control}
use Rattle.plans.specs.{Words.word_control, Steering.Steered}
use Rattle.shm_count.specs.declared.{answer.UpFault.UpFault, point.{StepPoint.TheVariants.Era, StepState.StepState}}
use Rattle.shm_count.specs.Step.Machines.{up_control}
use Rattle.shm_count.specs.declared.point.Aim.TheVariants as aims
use Rattle.shm_queue.specs.declared.{answer.SendFault.{SendFault, TheVariants.QueueFull}, send.SendPoint.SendPoint}
use Rattle.shm_queue.specs.declared.send.{SendPoint.TheVariants.{Tail, Head, Up, Store}, SendState.SendState}
use Rattle.shm_queue.specs.Answers.{send_fault}

-- its calls, and what they answer
abbrev pub SendCall : Type 0
SendCall = Or Word StepState

abbrev pub SendAnswer : Type 0
SendAnswer = Or ℕ (Result (Unit {0}) UpFault)

-- before its first call
abbrev pub sending : Me → ℕ → ℕ → SendState
sending me i b = record { me = me; to = i; block = b; tail = 0; point = Tail }

-- the addresses of the tail, the head and the slot at the tail
abbrev pub tail_at : SendState → ℕ
tail_at m = address m.me.geometry (place.Tail m.me.who m.to)

abbrev pub head_at : SendState → ℕ
head_at m = address m.me.geometry (place.Head m.me.who m.to)

abbrev pub slot_at : SendState → ℕ
slot_at m = address m.me.geometry (place.Slot m.me.who m.to (m.tail % 8))

abbrev pub send_call_at : SendState → SendPoint → SendCall
send_call_at m Tail = First (record { me = m.me; ask = ask.Load (tail_at m); over = false })
send_call_at m Head = First (record { me = m.me; ask = ask.Load (head_at m); over = false })
send_call_at m Up = Second (record { me = m.me; slot = slot_at m; aim = aims.Up m.block; point = Era })
send_call_at m Store = First (record { me = m.me; ask = ask.Store (tail_at m) ((m.tail + 1) % 2 ^ 64); over = false })

abbrev pub send_after : SendState → SendPoint → SendAnswer → SendState
send_after m Tail (First n) = record m { tail = n; point = Head }
send_after m Head (First n) = record m { point = Up }
send_after m Up (First n) = m
send_after m Store (First n) = m
send_after m y (Second (Ok done)) = record m { point = Store }
send_after m y (Second (Err f)) = m

-- the queue is full where the tail and the head that were read differ by 8
abbrev pub send_turns : SendState → SendPoint → SendAnswer → Option (Result ℕ SendFault)
send_turns m Tail (First n) = None
send_turns m Head (First n) = if m.tail - n == 8 then Some (Err (QueueFull n m.tail)) else None
send_turns m Up (First n) = Some (Ok m.tail)
send_turns m Store (First n) = Some (Ok m.tail)
send_turns m y (Second (Ok done)) = None
send_turns m y (Second (Err f)) = Some (Err (send_fault f))

abbrev pub is_tail : SendPoint → Bool
is_tail Tail = true
is_tail y = false

-- what the control keeps in range
pub record SendInRange (m : SendState) : Type 0 where
  pub geometry : GeometryFits m.me.geometry
  pub who : m.me.who < m.me.geometry.clients
  pub to : m.to < m.me.geometry.clients
  pub block : m.block < address_limit

-- the control of its calls
abbrev pub send_parts : Control SendCall SendAnswer
send_parts = or_control word_control up_control

-- what the plan does: its identity and its line, its calls, and where it goes by their answers
abbrev pub send_steered : Steered SendState SendCall SendAnswer (Result ℕ SendFault)
send_steered =
    record {
      me = λ m. m.me;
      line = λ m. [];
      first = λ m. is_tail m.point;
      start = λ m. record m { tail = 0; point = Tail };
      call = λ m. send_call_at m m.point;
      after = λ m. send_after m m.point;
      turns = λ m. send_turns m m.point;
    }
