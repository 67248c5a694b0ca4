-- the control of taking an entry out of its chain: which call comes next, and where it goes by what that call answered
use Rattle.std.specs.Prelude.{ℕ, ◌+◌, ◌%◌, ◌<◌, Bool, true, false, ◌==◌, if◌then◌else◌, Option, Some, None, Result, Ok, Err, []}
use Rattle.shm_words.specs.Layout.{GeometryFits, address_limit}
use Rattle.shm_graph.specs.{declared.ask.Me.Me, Laws.Control}
use Rattle.plans.specs.declared.{or.Or.{Or, TheVariants.{First, Second}}, word.Word.Word, calls.Calls.Calls}
use Rattle.plans.specs.{Either.or_control, Words.word_control, Steering.Steered, CallsControl.calls_control}
use Rattle.shm_count.specs.declared.{answer.{EraSpent.EraSpent, UpFault.UpFault}, point.StepPoint.TheVariants.Era}
use Rattle.shm_count.specs.declared.{point.StepState.StepState, tear_point.TearPoint.TheVariants.Begin}
use Rattle.shm_count.specs.{declared.tear_point.TearState.TearState, Step.{Control.step_control, Machines.down_control}}
use Rattle.shm_count.specs.Tear.Control.{tear_control}
use Rattle.shm_count.specs.declared.answer.UpFault.TheVariants as fault
use Rattle.shm_count.specs.declared.point.Aim.TheVariants as aims
use Rattle.shm_table.specs.declared.unlink.UnlinkPoint.{UnlinkPoint, TheVariants.{Look, Lower, Change, Tear}}
use Rattle.shm_table.specs.{declared.unlink.UnlinkState.UnlinkState, Find.Control.word_ask}

-- its calls, and what they answer
abbrev pub UnlinkCall : Type 0
UnlinkCall = Or Word (Or StepState (Or StepState TearState))

abbrev pub UnlinkAnswer : Type 0
UnlinkAnswer = Or ℕ (Or (Result Bool EraSpent) (Or (Result Bool UpFault) (Result (Unit {0}) EraSpent)))

-- before its first call
abbrev pub unlinking : Me → ℕ → ℕ → ℕ → UnlinkState
unlinking me b d i = record { me = me; entry = b; before = d; word = i; next = 0; point = Look }

-- the address of the word that leads to the entry
abbrev pub link_at : UnlinkState → ℕ
link_at m = (m.before + 2 + m.word) % address_limit

abbrev pub unlink_call_at : UnlinkState → UnlinkPoint → UnlinkCall
unlink_call_at m Look = First (record { me = m.me; ask = word_ask m.entry 0; over = false })
unlink_call_at m Lower = Second (First (record { me = m.me; slot = link_at m; aim = aims.Down m.entry; point = Era }))
unlink_call_at m Change = Second (Second (First (record { me = m.me; slot = link_at m; aim = aims.Change m.entry m.next; point = Era })))
unlink_call_at m Tear = Second (Second (Second (record { me = m.me; first = m.entry; block = m.entry; point = Begin })))

-- ---- where it goes

-- the count step by which the word loses the entry
abbrev pub step_point : ℕ → UnlinkPoint
step_point next = if next == 0 then Lower else Change

-- by the word that was found
abbrev pub found_after : UnlinkState → ℕ → UnlinkState
found_after m n = record m { next = n % address_limit; point = step_point (n % address_limit) }

-- by whether the count of the entry came to 0
abbrev pub lowered_after : UnlinkState → Bool → UnlinkState
lowered_after m true = record m { point = Tear }
lowered_after m false = m

abbrev pub lowered_turns : Bool → Option (Result (Unit {0}) UpFault)
lowered_turns true = None
lowered_turns false = Some (Ok tt)

-- a refusal of a step down
abbrev pub spent_fault : EraSpent → UpFault
spent_fault e = fault.EraSpent e.era

abbrev pub unlink_after : UnlinkState → UnlinkAnswer → UnlinkState
unlink_after m (First n) = found_after m n
unlink_after m (Second (First (Ok z))) = lowered_after m z
unlink_after m (Second (Second (First (Ok z)))) = lowered_after m z
unlink_after m _ = m

abbrev pub unlink_turns : UnlinkState → UnlinkAnswer → Option (Result (Unit {0}) UpFault)
unlink_turns m (First n) = None
unlink_turns m (Second (First (Ok z))) = lowered_turns z
unlink_turns m (Second (First (Err e))) = Some (Err (spent_fault e))
unlink_turns m (Second (Second (First (Ok z)))) = lowered_turns z
unlink_turns m (Second (Second (First (Err f)))) = Some (Err f)
unlink_turns m (Second (Second (Second a))) = Some (Ok tt)

abbrev pub is_look : UnlinkPoint → Bool
is_look Look = true
is_look y = false

-- what the control keeps in range
pub record UnlinkInRange (m : UnlinkState) : Type 0 where
  pub geometry : GeometryFits m.me.geometry
  pub who : m.me.who < m.me.geometry.clients
  pub entry : m.entry < address_limit
  pub before : m.before < address_limit
  pub next : m.next < address_limit

-- the control of its calls
abbrev pub unlink_parts : Control UnlinkCall UnlinkAnswer
unlink_parts = or_control word_control (or_control down_control (or_control step_control tear_control))

-- what the plan does: its identity and its line, its calls, and where it goes by their answers
abbrev pub unlink_steered : Steered UnlinkState UnlinkCall UnlinkAnswer (Result (Unit {0}) UpFault)
unlink_steered =
    record {
      me = λ m. m.me;
      line = λ m. [];
      first = λ m. is_look m.point;
      start = λ m. unlinking m.me m.entry m.before m.word;
      call = λ m. unlink_call_at m m.point;
      after = unlink_after;
      turns = unlink_turns;
    }

-- it as a call of larger machines, and its control
abbrev pub UnlinkCalls : Type 0
UnlinkCalls = Calls UnlinkState UnlinkCall

abbrev pub unlink_control : Control UnlinkCalls (Result (Unit {0}) UpFault)
unlink_control = calls_control unlink_parts unlink_steered
