-- the control of a new entry: which call comes next, and where it goes by what that call answered
use Rattle.std.specs.Prelude.{ℕ, ◌+◌, ◌-◌, ◌%◌, ◌^◌, ◌<◌, Bool, true, false, ◌==◌, nat_lt, if◌then◌else◌, Option, Some, None, Result, Ok, Err, [], ◌∷◌}
use Rattle.shm_words.specs.Layout.{GeometryFits, address_limit}
use Rattle.shm_graph.specs.{declared.{ask.Me.Me, spot.Spot.{Spot, TheVariants.Body}}, Laws.Control}
use Rattle.plans.specs.{declared.or.Or.{Or, TheVariants.{First, Second}}, Either.or_control, Steering.Steered}
use Rattle.shm_count.specs.declared.{answer.{Made.Made as AMade, UpFault.UpFault}, point.StepPoint.TheVariants.Era}
use Rattle.shm_count.specs.{declared.point.StepState.StepState, Step.{Control.step_control, Machines.up_control}}
use Rattle.shm_count.specs.declared.point.Aim.TheVariants as aims
use Rattle.shm_alloc.specs.declared.{alloc.AllocFault.AllocFault, point.AllocState.AllocState, request.Request.Request}
use Rattle.shm_alloc.specs.Alloc.Control.{alloc_control}
use Rattle.shm_alloc.specs.declared.point.AllocPoint.TheVariants as alloc
use Rattle.shm_table.specs.declared.enter.Entered.{Entered, TheVariants.{Linked, Unlinked, Unmade}}
use Rattle.shm_table.specs.declared.enter.EnterPoint.{EnterPoint, TheVariants.{Make, Value, Next, Link, Change}}
use Rattle.shm_table.specs.{declared.enter.EnterState.EnterState, Answers.{made_fault, raised_fault}}

-- its calls, and what they answer
abbrev pub EnterCall : Type 0
EnterCall = Or AllocState (Or StepState StepState)

abbrev pub EnterAnswer : Type 0
EnterAnswer = Or (Result AMade AllocFault) (Or (Result (Unit {0}) UpFault) (Result Bool UpFault))

-- before its first call
abbrev pub entering : Me → ℕ → ℕ → ℕ → ℕ → EnterState
entering me key v home first = record { me = me; key = key; value = v; home = home; first = first; root = 0; entry = 0; point = Make }

-- ---- its calls

-- a block with the words of an entry, of which the key is the plain one
abbrev pub entry_request : ℕ → Request
entry_request key = record { refs = 2; count = 1; plain = key ∷ 0 ∷ 0 ∷ 0 ∷ 0 ∷ 0 ∷ 0 ∷ 0 ∷ []; near = record { segment = 0; page = 0; index = 0 } }

-- the word that a count step changes at a point
abbrev pub enter_block : EnterState → EnterPoint → ℕ
enter_block m Value = m.entry
enter_block m Next = m.entry
enter_block m y = m.home

abbrev pub enter_word : EnterState → EnterPoint → ℕ
enter_word m Value = 1
enter_word m Next = 0
enter_word m y = m.key % 16

abbrev pub enter_spot : EnterState → EnterPoint → Spot
enter_spot m y = Body (enter_block m y) (enter_word m y)

-- the block that comes to stand there
abbrev pub enter_to : EnterState → EnterPoint → ℕ
enter_to m Value = m.value
enter_to m Next = m.first
enter_to m y = m.entry

abbrev pub up_of : EnterState → ℕ → ℕ → ℕ → EnterCall
up_of m b i to = Second (First (record { me = m.me; slot = b + 2 + i; aim = aims.Up to; point = Era }))

abbrev pub enter_call_at : EnterState → EnterPoint → EnterCall
enter_call_at m Make = First (record { me = m.me; request = entry_request m.key; point = alloc.Era })
enter_call_at m Change = Second (Second (record { me = m.me; slot = m.home + 2 + m.key % 16; aim = aims.Change m.first m.entry; point = Era }))
enter_call_at m y = up_of m (enter_block m y) (enter_word m y) (enter_to m y)

-- ---- where it goes

-- the block of an answer, where an entry can be at it
abbrev pub entry_of : ℕ → ℕ
entry_of b = if nat_lt b (address_limit - 3) then b else 0

-- after the value word: where the bucket is empty the entry is linked, otherwise it names the first one
abbrev pub valued_by : Bool → EnterPoint
valued_by true = Link
valued_by false = Next

abbrev pub valued_point : ℕ → EnterPoint
valued_point first = valued_by (first == 0)

abbrev pub raised_after : EnterState → EnterPoint → EnterState
raised_after m Value = record m { point = valued_point m.first }
raised_after m Next = record m { point = Change }
raised_after m y = m

abbrev pub raised_turns : EnterState → EnterPoint → Option Entered
raised_turns m Value = None
raised_turns m Next = None
raised_turns m y = Some (Linked m.root)

abbrev pub enter_after : EnterState → EnterAnswer → EnterState
enter_after m (First (Ok made)) = record m { root = made.root; entry = entry_of made.block; point = Value }
enter_after m (Second (First (Ok done))) = raised_after m m.point
enter_after m _ = m

abbrev pub enter_turns : EnterState → EnterAnswer → Option Entered
enter_turns m (First (Ok made)) = None
enter_turns m (First (Err f)) = Some (Unmade (made_fault f))
enter_turns m (Second (First (Ok done))) = raised_turns m m.point
enter_turns m (Second (First (Err f))) = Some (Unlinked m.root (raised_fault f))
enter_turns m (Second (Second (Ok z))) = Some (Linked m.root)
enter_turns m (Second (Second (Err f))) = Some (Unlinked m.root (raised_fault f))

abbrev pub is_make : EnterPoint → Bool
is_make Make = true
is_make y = false

-- what the control keeps in range
pub record EnterInRange (m : EnterState) : Type 0 where
  pub geometry : GeometryFits m.me.geometry
  pub who : m.me.who < m.me.geometry.clients
  pub key : m.key < 2 ^ 32
  pub value : m.value < address_limit
  pub home : m.home + 17 < address_limit
  pub first : m.first < address_limit
  pub entry : m.entry + 3 < address_limit

-- the control of its calls
abbrev pub enter_parts : Control EnterCall EnterAnswer
enter_parts = or_control alloc_control (or_control up_control step_control)

-- what the plan does: its identity and its line, its calls, and where it goes by their answers
abbrev pub enter_steered : Steered EnterState EnterCall EnterAnswer Entered
enter_steered =
    record {
      me = λ m. m.me;
      line = λ m. [];
      first = λ m. is_make m.point;
      start = λ m. record m { root = 0; entry = 0; point = Make };
      call = λ m. enter_call_at m m.point;
      after = enter_after;
      turns = enter_turns;
    }
