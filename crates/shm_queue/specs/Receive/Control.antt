-- the control of a receive: a peek, and then a take
use Rattle.std.specs.Prelude.{ℕ, ◌<◌, Bool, true, false, Option, Some, None, Result, Ok, Err, []}
use Rattle.shm_words.specs.Layout.{GeometryFits}
use Rattle.shm_graph.specs.{declared.ask.Me.Me, Laws.Control}
use Rattle.plans.specs.declared.{calls.Calls.Calls, or.Or.{Or, TheVariants.{First, Second}}}
use Rattle.plans.specs.{CallsControl.{calls_control, calls_of}, Either.or_control, Steering.Steered}
use Rattle.shm_count.specs.declared.answer.Made.{Made}
use Rattle.shm_queue.specs.declared.{answer.{PeekFault.PeekFault, TakeFault.TakeFault}, peek.PeekState.PeekState}
use Rattle.shm_queue.specs.declared.receive.ReceivePoint.{ReceivePoint, TheVariants.{Look, Item}}
use Rattle.shm_queue.specs.{declared.receive.ReceiveState.ReceiveState, Drain.Control.{TakeCalls, take_control}}
use Rattle.shm_queue.specs.Peek.Control.{PeekCall, peek_parts, peeking, peek_steered}
use Rattle.shm_queue.specs.Take.Control.{taking, take_steered}
use Rattle.shm_queue.specs.declared.answer.PeekFault.TheVariants as peek
use Rattle.shm_queue.specs.declared.answer.TakeFault.TheVariants as fault

-- a peek as a call, and its control
abbrev pub PeekCalls : Type 0
PeekCalls = Calls PeekState PeekCall

abbrev pub peek_control : Control PeekCalls (Result Made PeekFault)
peek_control = calls_control peek_parts peek_steered

-- its calls, and what they answer
abbrev pub ReceiveCall : Type 0
ReceiveCall = Or PeekCalls TakeCalls

abbrev pub ReceiveAnswer : Type 0
ReceiveAnswer = Or (Result Made PeekFault) (Result (Unit {0}) TakeFault)

-- before its first call
abbrev pub receiving : Me → ℕ → ReceiveState
receiving me s = record { me = me; from = s; root = 0; block = 0; point = Look }

abbrev pub receive_call_at : ReceiveState → ReceivePoint → ReceiveCall
receive_call_at m Look = First (calls_of peek_steered (peeking m.me m.from))
receive_call_at m Item = Second (calls_of take_steered (taking m.me m.from))

abbrev pub receive_after : ReceiveState → ReceiveAnswer → ReceiveState
receive_after m (First (Ok made)) = record m { root = made.root; block = made.block; point = Item }
receive_after m _ = m

abbrev pub receive_turns : ReceiveState → ReceiveAnswer → Option (Result Made PeekFault)
receive_turns m (First (Ok made)) = None
receive_turns m (First (Err f)) = Some (Err f)
receive_turns m (Second (Ok done)) = Some (Ok (record { root = m.root; block = m.block }))
receive_turns m (Second (Err (fault.Empty n))) = Some (Err (peek.Empty n))
receive_turns m (Second (Err (fault.EraSpent e))) = Some (Err (peek.EraSpent e))

abbrev pub is_look : ReceivePoint → Bool
is_look Look = true
is_look y = false

-- what the control keeps in range
pub record ReceiveInRange (m : ReceiveState) : Type 0 where
  pub geometry : GeometryFits m.me.geometry
  pub who : m.me.who < m.me.geometry.clients
  pub from : m.from < m.me.geometry.clients

-- the control of its calls
abbrev pub receive_parts : Control ReceiveCall ReceiveAnswer
receive_parts = or_control peek_control take_control

-- what the plan does: its identity and its line, its calls, and where it goes by their answers
abbrev pub receive_steered : Steered ReceiveState ReceiveCall ReceiveAnswer (Result Made PeekFault)
receive_steered =
    record {
      me = λ m. m.me;
      line = λ m. [];
      first = λ m. is_look m.point;
      start = λ m. record m { root = 0; block = 0; point = Look };
      call = λ m. receive_call_at m m.point;
      after = receive_after;
      turns = receive_turns;
    }
