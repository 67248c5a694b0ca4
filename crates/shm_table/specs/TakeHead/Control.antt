-- the control of taking an item that is known: which call comes next, and where it goes by what that call answered
use Rattle.std.specs.Prelude.{ℕ, ◌+◌, ◌%◌, ◌^◌, ◌<◌, Bool, true, false, Option, Some, None, Result, Ok, Err, []}
use Rattle.shm_words.specs.Layout.{GeometryFits, address, address_limit}
use Rattle.shm_words.specs.declared.place.Place.TheVariants as place
use Rattle.shm_graph.specs.{declared.ask.{Ask.Ask, Me.Me}, Laws.Control}
use Rattle.shm_graph.specs.declared.ask.Ask.TheVariants as ask
use Rattle.plans.specs.{declared.{or.Or.{Or, TheVariants.{First, Second}}, word.Word.Word}, Either.or_control}
use Rattle.plans.specs.{Words.word_control, Steering.Steered}
use Rattle.shm_count.specs.declared.{answer.EraSpent.EraSpent, point.{StepPoint.TheVariants.Era, StepState.StepState}}
use Rattle.shm_count.specs.Step.Machines.{down_control}
use Rattle.shm_count.specs.declared.point.Aim.TheVariants as aims
use Rattle.shm_table.specs.declared.take_head.TakeHeadPoint.{TakeHeadPoint, TheVariants.{Lower, Store}}
use Rattle.shm_table.specs.declared.take_head.TakeHeadState.{TakeHeadState}

-- its calls, and what they answer
abbrev pub TakeHeadCall : Type 0
TakeHeadCall = Or Word StepState

abbrev pub TakeHeadAnswer : Type 0
TakeHeadAnswer = Or ℕ (Result Bool EraSpent)

-- before its first call
abbrev pub taking_head : Me → ℕ → ℕ → ℕ → TakeHeadState
taking_head me s n b = record { me = me; from = s; at = n; block = b; point = Lower }

-- the addresses of the head and of the slot there
abbrev pub head_at : TakeHeadState → ℕ
head_at m = address m.me.geometry (place.Head m.from m.me.who)

abbrev pub slot_at : TakeHeadState → ℕ
slot_at m = address m.me.geometry (place.Slot m.from m.me.who (m.at % 8))

-- the head that is stored is one more
abbrev pub take_head_ask : TakeHeadState → Ask
take_head_ask m = ask.Store (head_at m) ((m.at + 1) % 2 ^ 64)

abbrev pub take_head_call : TakeHeadState → TakeHeadPoint → TakeHeadCall
take_head_call m Lower = Second (record { me = m.me; slot = slot_at m; aim = aims.Down m.block; point = Era })
take_head_call m Store = First (record { me = m.me; ask = take_head_ask m; over = false })

abbrev pub take_head_after : TakeHeadState → TakeHeadAnswer → TakeHeadState
take_head_after m (Second (Ok z)) = record m { point = Store }
take_head_after m a = m

abbrev pub take_head_turns : TakeHeadState → TakeHeadAnswer → Option (Result (Unit {0}) EraSpent)
take_head_turns m (First n) = Some (Ok tt)
take_head_turns m (Second (Ok z)) = None
take_head_turns m (Second (Err e)) = Some (Err e)

abbrev pub is_lower : TakeHeadPoint → Bool
is_lower Lower = true
is_lower y = false

-- what the control keeps in range
pub record TakeHeadInRange (m : TakeHeadState) : Type 0 where
  pub geometry : GeometryFits m.me.geometry
  pub who : m.me.who < m.me.geometry.clients
  pub from : m.from < m.me.geometry.clients
  pub block : m.block < address_limit

-- the control of its calls
abbrev pub take_head_parts : Control TakeHeadCall TakeHeadAnswer
take_head_parts = or_control word_control down_control

-- what the plan does: its identity and its line, its calls, and where it goes by their answers
abbrev pub take_head_steered : Steered TakeHeadState TakeHeadCall TakeHeadAnswer (Result (Unit {0}) EraSpent)
take_head_steered =
    record {
      me = λ m. m.me;
      line = λ m. [];
      first = λ m. is_lower m.point;
      start = λ m. taking_head m.me m.from m.at m.block;
      call = λ m. take_head_call m m.point;
      after = take_head_after;
      turns = take_head_turns;
    }
