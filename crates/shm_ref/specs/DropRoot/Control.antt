-- the control of a drop of a root: which call comes next, and where it goes by what that call answered
use Rattle.std.specs.Prelude.{ℕ, ◌%◌, ◌<◌, Bool, true, false, ◌==◌, if◌then◌else◌, Option, Some, None, Result, Ok, Err, []}
use Rattle.shm_words.specs.Layout.{GeometryFits, address, address_limit}
use Rattle.shm_words.specs.declared.place.Place.TheVariants as place
use Rattle.shm_graph.specs.{declared.ask.Me.Me, Laws.Control}
use Rattle.shm_graph.specs.declared.ask.Ask.TheVariants as ask
use Rattle.plans.specs.{declared.{or.Or.{Or, TheVariants.{First, Second}}, word.Word.Word}, Either.or_control}
use Rattle.plans.specs.{Words.word_control, Steering.Steered}
use Rattle.shm_count.specs.declared.{answer.EraSpent.EraSpent, point.{Aim.TheVariants.Down, StepPoint.TheVariants.Era}}
use Rattle.shm_count.specs.declared.{point.StepState.StepState, tear_point.TearPoint.TheVariants.Begin}
use Rattle.shm_count.specs.{declared.tear_point.TearState.TearState, Step.Machines.down_control}
use Rattle.shm_count.specs.Tear.Control.{tear_control}
use Rattle.shm_ref.specs.declared.drop_root.DropPoint.{DropPoint, TheVariants.{Load, Lower, Tear}}
use Rattle.shm_ref.specs.declared.drop_root.DropState.{DropState}

-- its calls, and what they answer
abbrev pub DropCall : Type 0
DropCall = Or Word (Or StepState TearState)

abbrev pub DropAnswer : Type 0
DropAnswer = Or ℕ (Or (Result Bool EraSpent) (Result (Unit {0}) EraSpent))

-- before its first call
abbrev pub dropping : Me → ℕ → DropState
dropping me k = record { me = me; root = k; block = 0; point = Load }

-- the address of the root
abbrev pub root_at : DropState → ℕ
root_at m = address m.me.geometry (place.Root m.me.who m.root)

abbrev pub drop_call_at : DropState → DropPoint → DropCall
drop_call_at m Load = First (record { me = m.me; ask = ask.Load (root_at m); over = false })
drop_call_at m Lower = Second (First (record { me = m.me; slot = root_at m; aim = Down m.block; point = Era }))
drop_call_at m Tear = Second (Second (record { me = m.me; first = m.block; block = m.block; point = Begin }))

abbrev pub drop_after : DropState → DropAnswer → DropState
drop_after m (First n) = record m { block = n % address_limit; point = Lower }
drop_after m (Second (First (Ok true))) = record m { point = Tear }
drop_after m _ = m

abbrev pub drop_turns : DropState → DropAnswer → Option (Result Bool EraSpent)
drop_turns m (First n) = if n % address_limit == 0 then Some (Ok false) else None
drop_turns m (Second (First (Ok true))) = None
drop_turns m (Second (First (Ok false))) = Some (Ok true)
drop_turns m (Second (First (Err e))) = Some (Err e)
drop_turns m (Second (Second (Ok done))) = Some (Ok true)
drop_turns m (Second (Second (Err e))) = Some (Err e)

abbrev pub is_load : DropPoint → Bool
is_load Load = true
is_load y = false

-- what the control keeps in range
pub record DropInRange (m : DropState) : Type 0 where
  pub geometry : GeometryFits m.me.geometry
  pub who : m.me.who < m.me.geometry.clients
  pub root : m.root < 16
  pub block : m.block < address_limit

-- the control of its calls
abbrev pub drop_parts : Control DropCall DropAnswer
drop_parts = or_control word_control (or_control down_control tear_control)

-- what the plan does: its identity and its line, its calls, and where it goes by their answers
abbrev pub drop_steered : Steered DropState DropCall DropAnswer (Result Bool EraSpent)
drop_steered =
    record {
      me = λ m. m.me;
      line = λ m. [];
      first = λ m. is_load m.point;
      start = λ m. record m { block = 0; point = Load };
      call = λ m. drop_call_at m m.point;
      after = drop_after;
      turns = drop_turns;
    }
