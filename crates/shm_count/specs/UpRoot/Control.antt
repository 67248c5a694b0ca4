-- the control of an up at the least empty root: which call comes next, and where it goes by what that call answered
use Rattle.std.specs.Prelude.{ℕ, ◌+◌, ◌-◌, ◌^◌, ◌<◌, ◌≤◌, Bool, true, false, ◌==◌, nat_lt, if◌then◌else◌, Option, Some, None, Result, Ok, Err, []}
use Rattle.shm_words.specs.Layout.{GeometryFits, address, address_limit}
use Rattle.shm_words.specs.declared.place.Place.TheVariants as place
use Rattle.shm_count.specs.{Step.{Control.first_point, Machines.up_control}, declared.answer.ShareFault.ShareFault}
use Rattle.shm_count.specs.declared.answer.UpFault.{UpFault, TheVariants.{EraSpent, CountFull}}
use Rattle.shm_count.specs.declared.{point.{Aim.TheVariants.Up, StepState.StepState}, up_root.RootingPoint.RootingPoint}
use Rattle.shm_count.specs.declared.up_root.{RootingPoint.TheVariants.{Era, Look, Step}, RootingState.RootingState}
use Rattle.shm_count.specs.declared.answer.ShareFault.TheVariants as share
use Rattle.shm_graph.specs.{declared.ask.{Ask.{Ask, TheVariants.Load}, Me.Me}, Laws.Control}
use Rattle.plans.specs.{declared.{or.Or.{Or, TheVariants.{First, Second}}, word.Word.Word}, Either.or_control}
use Rattle.plans.specs.{Words.word_control, Steering.Steered}

-- its calls, and what they answer
abbrev pub RootingCall : Type 0
RootingCall = Or Word StepState

abbrev pub RootingAnswer : Type 0
RootingAnswer = Or ℕ (Result (Unit {0}) UpFault)

-- before its first call
abbrev pub rooting : Me → ℕ → RootingState
rooting me b = record { me = me; block = b; era = 0; root = 0; point = Era }

-- the step up at root k that is taken up once its own era e was loaded
abbrev pub taken_up : Me → ℕ → ℕ → ℕ → StepState
taken_up me k b e = record { me = me; slot = address me.geometry (place.Root me.who k); aim = Up b; point = first_point me e }

-- the word step at a point
abbrev pub rooting_ask : Me → ℕ → RootingPoint → Ask
rooting_ask me k Era = Load (address me.geometry (place.Era me.who me.who))
rooting_ask me k y = Load (address me.geometry (place.Root me.who k))

abbrev pub rooting_call : RootingState → RootingPoint → RootingCall
rooting_call m Step = Second (taken_up m.me m.root m.block m.era)
rooting_call m y = First (record { me = m.me; ask = rooting_ask m.me m.root y; over = false })

-- what the refusal of the step up says of the whole
abbrev pub share_fault : UpFault → ShareFault
share_fault (EraSpent e) = share.EraSpent e
share_fault (CountFull b n) = share.CountFull b n

-- where it goes by the own era
abbrev pub era_after : RootingState → ℕ → RootingState
era_after m n = if nat_lt (2 ^ 47 - 3) n then m else record m { era = n; point = Look }

abbrev pub era_turns : ℕ → Option (Result ℕ ShareFault)
era_turns n = if nat_lt (2 ^ 47 - 3) n then Some (Err (share.EraSpent n)) else None

-- where it goes by what the root names
abbrev pub look_after : RootingState → ℕ → RootingState
look_after m n = if n == 0 then record m { point = Step } else if m.root == 15 then m else record m { root = m.root + 1 }

abbrev pub look_turns : RootingState → ℕ → Option (Result ℕ ShareFault)
look_turns m n = if n == 0 then None else if m.root == 15 then Some (Err share.RootsFull) else None

abbrev pub rooting_after : RootingState → RootingPoint → RootingAnswer → RootingState
rooting_after m Era (First n) = era_after m n
rooting_after m y (First n) = look_after m n
rooting_after m y (Second a) = m

abbrev pub rooting_turns : RootingState → RootingPoint → RootingAnswer → Option (Result ℕ ShareFault)
rooting_turns m Era (First n) = era_turns n
rooting_turns m y (First n) = look_turns m n
rooting_turns m y (Second (Ok done)) = Some (Ok m.root)
rooting_turns m y (Second (Err f)) = Some (Err (share_fault f))

abbrev pub is_era : RootingPoint → Bool
is_era Era = true
is_era y = false

-- what the control keeps in range
pub record RootingInRange (m : RootingState) : Type 0 where
  pub geometry : GeometryFits m.me.geometry
  pub who : m.me.who < m.me.geometry.clients
  pub block : m.block < address_limit
  pub era : m.era + 3 ≤ 2 ^ 47
  pub root : m.root < 16

-- the control of its calls
abbrev pub rooting_parts : Control RootingCall RootingAnswer
rooting_parts = or_control word_control up_control

-- what the plan does: its identity and its line, its calls, and where it goes by their answers
abbrev pub rooting_steered : Steered RootingState RootingCall RootingAnswer (Result ℕ ShareFault)
rooting_steered =
    record {
      me = λ m. m.me;
      line = λ m. [];
      first = λ m. is_era m.point;
      start = λ m. record m { era = 0; root = 0; point = Era };
      call = λ m. rooting_call m m.point;
      after = λ m. rooting_after m m.point;
      turns = λ m. rooting_turns m m.point;
    }
