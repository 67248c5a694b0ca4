-- the control of giving an entry another value block: which call comes next, and where it goes by what that call answered
use Rattle.std.specs.Prelude.{ℕ, ◌+◌, ◌%◌, ◌<◌, Bool, true, false, ◌==◌, if◌then◌else◌, Option, Some, None, Result, Ok, Err, []}
use Rattle.shm_words.specs.Layout.{GeometryFits, address_limit}
use Rattle.shm_graph.specs.{declared.ask.Me.Me, Laws.Control}
use Rattle.plans.specs.{declared.{or.Or.{Or, TheVariants.{First, Second}}, word.Word.Word}, Either.or_control}
use Rattle.plans.specs.{Words.word_control, Steering.Steered}
use Rattle.shm_count.specs.declared.{answer.{EraSpent.EraSpent, UpFault.UpFault}, point.StepPoint.TheVariants.Era}
use Rattle.shm_count.specs.declared.{point.StepState.StepState, tear_point.TearPoint.TheVariants.Begin}
use Rattle.shm_count.specs.{declared.tear_point.TearState.TearState, Step.Control.step_control}
use Rattle.shm_count.specs.Tear.Control.{tear_control}
use Rattle.shm_count.specs.declared.point.Aim.TheVariants as aims
use Rattle.shm_table.specs.declared.{answer.PutFault.PutFault, replace.ReplacePoint.ReplacePoint}
use Rattle.shm_table.specs.declared.replace.{ReplacePoint.TheVariants.{Look, Change, Tear}, ReplaceState.ReplaceState}
use Rattle.shm_table.specs.{Answers.raised_fault, Find.Control.word_ask}

-- its calls, and what they answer
abbrev pub ReplaceCall : Type 0
ReplaceCall = Or Word (Or StepState TearState)

abbrev pub ReplaceAnswer : Type 0
ReplaceAnswer = Or ℕ (Or (Result Bool UpFault) (Result (Unit {0}) EraSpent))

-- before its first call
abbrev pub replacing : Me → ℕ → ℕ → ReplaceState
replacing me b to = record { me = me; entry = b; to = to; before = 0; point = Look }

abbrev pub replace_call_at : ReplaceState → ReplacePoint → ReplaceCall
replace_call_at m Look = First (record { me = m.me; ask = word_ask m.entry 1; over = false })
replace_call_at m Change = Second (First (record { me = m.me; slot = (m.entry + 2 + 1) % address_limit; aim = aims.Change m.before m.to; point = Era }))
replace_call_at m Tear = Second (Second (record { me = m.me; first = m.before; block = m.before; point = Begin }))

-- ---- where it goes

-- by the word that was found; it answers whether the entry came to have the value block, or had it already
abbrev pub found_after : ReplaceState → ℕ → ReplaceState
found_after m n = record m { before = n % address_limit; point = Change }

abbrev pub found_turns : ReplaceState → ℕ → Option (Result Bool PutFault)
found_turns m n = if n % address_limit == m.to then Some (Ok false) else None

-- by whether the count of the old block came to 0
abbrev pub lowered_after : ReplaceState → Bool → ReplaceState
lowered_after m true = record m { point = Tear }
lowered_after m false = m

abbrev pub lowered_turns : Bool → Option (Result Bool PutFault)
lowered_turns true = None
lowered_turns false = Some (Ok true)

abbrev pub replace_after : ReplaceState → ReplaceAnswer → ReplaceState
replace_after m (First n) = found_after m n
replace_after m (Second (First (Ok z))) = lowered_after m z
replace_after m _ = m

abbrev pub replace_turns : ReplaceState → ReplaceAnswer → Option (Result Bool PutFault)
replace_turns m (First n) = found_turns m n
replace_turns m (Second (First (Ok z))) = lowered_turns z
replace_turns m (Second (First (Err f))) = Some (Err (raised_fault f))
replace_turns m (Second (Second a)) = Some (Ok true)

abbrev pub is_look : ReplacePoint → Bool
is_look Look = true
is_look y = false

-- what the control keeps in range
pub record ReplaceInRange (m : ReplaceState) : Type 0 where
  pub geometry : GeometryFits m.me.geometry
  pub who : m.me.who < m.me.geometry.clients
  pub entry : m.entry < address_limit
  pub to : m.to < address_limit
  pub before : m.before < address_limit

-- the control of its calls
abbrev pub replace_parts : Control ReplaceCall ReplaceAnswer
replace_parts = or_control word_control (or_control step_control tear_control)

-- what the plan does: its identity and its line, its calls, and where it goes by their answers
abbrev pub replace_steered : Steered ReplaceState ReplaceCall ReplaceAnswer (Result Bool PutFault)
replace_steered =
    record {
      me = λ m. m.me;
      line = λ m. [];
      first = λ m. is_look m.point;
      start = λ m. replacing m.me m.entry m.to;
      call = λ m. replace_call_at m m.point;
      after = replace_after;
      turns = replace_turns;
    }
