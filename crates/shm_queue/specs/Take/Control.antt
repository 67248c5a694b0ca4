-- the control of a take: which call comes next, and where it goes by what that call answered
use Rattle.std.specs.Prelude.{ℕ, ◌+◌, ◌%◌, ◌^◌, ◌<◌, Bool, true, false, ◌==◌, if◌then◌else◌, Option, Some, None, Result, Ok, Err, []}
use Rattle.shm_words.specs.Layout.{GeometryFits, address, address_limit}
use Rattle.shm_words.specs.declared.place.Place.TheVariants as place
use Rattle.shm_graph.specs.{declared.ask.Me.Me, Laws.Control}
use Rattle.shm_graph.specs.declared.ask.Ask.TheVariants as ask
use Rattle.plans.specs.{declared.{or.Or.{Or, TheVariants.{First, Second}}, word.Word.Word}, Either.or_control}
use Rattle.plans.specs.{Words.word_control, Steering.Steered}
use Rattle.shm_count.specs.declared.{answer.EraSpent.EraSpent, point.{StepPoint.TheVariants.Era, StepState.StepState}}
use Rattle.shm_count.specs.declared.tear_point.{TearPoint.TheVariants.Begin, TearState.TearState}
use Rattle.shm_count.specs.{Step.Machines.down_control, Tear.Control.tear_control}
use Rattle.shm_count.specs.declared.point.Aim.TheVariants as aims
use Rattle.shm_queue.specs.declared.{answer.TakeFault.{TakeFault, TheVariants.Empty}, take.TakePoint.TakePoint}
use Rattle.shm_queue.specs.declared.take.TakePoint.TheVariants.{Head, Tail, Slot, Lower, Store, Tear}
use Rattle.shm_queue.specs.{declared.take.TakeState.TakeState, Answers.take_fault}

-- its calls, and what they answer
abbrev pub TakeCall : Type 0
TakeCall = Or Word (Or StepState TearState)

abbrev pub TakeAnswer : Type 0
TakeAnswer = Or ℕ (Or (Result Bool EraSpent) (Result (Unit {0}) EraSpent))

-- before its first call
abbrev pub taking : Me → ℕ → TakeState
taking me s = record { me = me; from = s; at = 0; block = 0; last = false; point = Head }

-- the addresses of the head, the tail and the slot at the head
abbrev pub head_at : TakeState → ℕ
head_at m = address m.me.geometry (place.Head m.from m.me.who)

abbrev pub tail_at : TakeState → ℕ
tail_at m = address m.me.geometry (place.Tail m.from m.me.who)

abbrev pub slot_at : TakeState → ℕ
slot_at m = address m.me.geometry (place.Slot m.from m.me.who (m.at % 8))

abbrev pub take_call_at : TakeState → TakePoint → TakeCall
take_call_at m Head = First (record { me = m.me; ask = ask.Load (head_at m); over = false })
take_call_at m Tail = First (record { me = m.me; ask = ask.Load (tail_at m); over = false })
take_call_at m Slot = First (record { me = m.me; ask = ask.Load (slot_at m); over = false })
take_call_at m Lower = Second (First (record { me = m.me; slot = slot_at m; aim = aims.Down m.block; point = Era }))
take_call_at m Store = First (record { me = m.me; ask = ask.Store (head_at m) ((m.at + 1) % 2 ^ 64); over = false })
take_call_at m Tear = Second (Second (record { me = m.me; first = m.block; block = m.block; point = Begin }))

-- by a word that was found: the queue is empty where the tail is the own head
abbrev pub after_word : TakeState → TakePoint → ℕ → TakeState
after_word m Head n = record m { at = n; point = Tail }
after_word m Tail n = record m { point = Slot }
after_word m Slot n = record m { block = n % address_limit; point = Lower }
after_word m y n = record m { point = Tear }

abbrev pub turns_word : TakeState → TakePoint → ℕ → Option (Result (Unit {0}) TakeFault)
turns_word m Head n = None
turns_word m Tail n = if n == m.at then Some (Err (Empty m.at)) else None
turns_word m Slot n = None
turns_word m y n = if m.last then None else Some (Ok tt)

abbrev pub take_after : TakeState → TakeAnswer → TakeState
take_after m (First n) = after_word m m.point n
take_after m (Second (First (Ok z))) = record m { last = z; point = Store }
take_after m _ = m

abbrev pub take_turns : TakeState → TakeAnswer → Option (Result (Unit {0}) TakeFault)
take_turns m (First n) = turns_word m m.point n
take_turns m (Second (First (Ok z))) = None
take_turns m (Second (First (Err e))) = Some (Err (take_fault e))
take_turns m (Second (Second (Ok done))) = Some (Ok tt)
take_turns m (Second (Second (Err e))) = Some (Err (take_fault e))

abbrev pub is_head : TakePoint → Bool
is_head Head = true
is_head y = false

-- what the control keeps in range
pub record TakeInRange (m : TakeState) : Type 0 where
  pub geometry : GeometryFits m.me.geometry
  pub who : m.me.who < m.me.geometry.clients
  pub from : m.from < m.me.geometry.clients
  pub block : m.block < address_limit

-- the control of its calls
abbrev pub take_parts : Control TakeCall TakeAnswer
take_parts = or_control word_control (or_control down_control tear_control)

-- what the plan does: its identity and its line, its calls, and where it goes by their answers
abbrev pub take_steered : Steered TakeState TakeCall TakeAnswer (Result (Unit {0}) TakeFault)
take_steered =
    record {
      me = λ m. m.me;
      line = λ m. [];
      first = λ m. is_head m.point;
      start = λ m. record m { at = 0; block = 0; last = false; point = Head };
      call = λ m. take_call_at m m.point;
      after = take_after;
      turns = take_turns;
    }
