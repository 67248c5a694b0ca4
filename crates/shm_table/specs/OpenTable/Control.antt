-- the control of a machine by which a home comes to name a directory: which call comes next, and where it goes by what that call answered
use Rattle.std.specs.Prelude.{ℕ, ◌%◌, ◌<◌, Bool, true, false, ◌==◌, if◌then◌else◌, Option, Some, None, Result, Ok, Err, [], ◌∷◌}
use Rattle.shm_words.specs.Layout.{GeometryFits, address_limit}
use Rattle.shm_graph.specs.{declared.ask.Me.Me, Laws.Control}
use Rattle.shm_graph.specs.declared.ask.Ask.TheVariants as ask
use Rattle.plans.specs.{declared.{or.Or.{Or, TheVariants.{First, Second}}, word.Word.Word}, CallsControl.calls_of}
use Rattle.plans.specs.{Either.or_control, Words.word_control, Steering.Steered}
use Rattle.shm_count.specs.declared.{answer.{EraSpent.EraSpent, Made.Made, UpFault.UpFault}, point.StepState.StepState}
use Rattle.shm_count.specs.Step.Machines.{up_control}
use Rattle.shm_count.specs.declared.point.Aim.TheVariants as aims
use Rattle.shm_count.specs.declared.point.StepPoint.TheVariants as step
use Rattle.shm_alloc.specs.declared.{alloc.AllocFault.AllocFault, point.AllocState.AllocState, request.Request.Request}
use Rattle.shm_alloc.specs.Alloc.Control.{alloc_control}
use Rattle.shm_alloc.specs.declared.point.AllocPoint.TheVariants as alloc
use Rattle.shm_ref.specs.{DropRoot.Control.{dropping, drop_steered}, HomeParts.home_address}
use Rattle.shm_ref.specs.DropRoots.Control.{RootsCall, drop_root}
use Rattle.shm_table.specs.declared.{answer.PutFault.PutFault, open_table.OpenPoint.OpenPoint}
use Rattle.shm_table.specs.declared.open_table.{OpenPoint.TheVariants.{Look, Make, Name, Drop}, OpenState.OpenState}
use Rattle.shm_table.specs.Answers.{made_fault, raised_fault, spent_fault}

-- its calls, and what they answer
abbrev pub OpenCall : Type 0
OpenCall = Or Word (Or AllocState (Or StepState RootsCall))

abbrev pub OpenAnswer : Type 0
OpenAnswer = Or ℕ (Or (Result Made AllocFault) (Or (Result (Unit {0}) UpFault) (Result Bool EraSpent)))

-- a block with 16 reference words
abbrev pub directory_request : Request
directory_request = record { refs = 16; count = 0; plain = 0 ∷ 0 ∷ 0 ∷ 0 ∷ 0 ∷ 0 ∷ 0 ∷ 0 ∷ []; near = record { segment = 0; page = 0; index = 0 } }

-- before its first call
abbrev pub opening : Me → OpenState
opening me = record { me = me; root = 0; block = 0; point = Look }

abbrev pub open_call_at : OpenState → OpenPoint → OpenCall
open_call_at m Look = First (record { me = m.me; ask = ask.Load (home_address m.me); over = false })
open_call_at m Make = Second (First (record { me = m.me; request = directory_request; point = alloc.Era }))
open_call_at m Name = Second (Second (First (record { me = m.me; slot = home_address m.me; aim = aims.Up m.block; point = step.Era })))
open_call_at m Drop = Second (Second (Second (calls_of drop_steered (dropping m.me m.root))))

abbrev pub open_after : OpenState → OpenAnswer → OpenState
open_after m (First n) = record m { point = Make }
open_after m (Second (First (Ok a))) = record m { root = a.root % 16; block = a.block % address_limit; point = Name }
open_after m (Second (Second (First (Ok done)))) = record m { point = Drop }
open_after m _ = m

abbrev pub open_turns : OpenState → OpenAnswer → Option (Result (Unit {0}) PutFault)
open_turns m (First n) = if n == 0 then None else Some (Ok tt)
open_turns m (Second (First (Ok a))) = None
open_turns m (Second (First (Err f))) = Some (Err (made_fault f))
open_turns m (Second (Second (First (Ok done)))) = None
open_turns m (Second (Second (First (Err f)))) = Some (Err (raised_fault f))
open_turns m (Second (Second (Second (Ok z)))) = Some (Ok tt)
open_turns m (Second (Second (Second (Err e)))) = Some (Err (spent_fault e))

abbrev pub is_look : OpenPoint → Bool
is_look Look = true
is_look y = false

-- what the control keeps in range
pub record OpenInRange (m : OpenState) : Type 0 where
  pub geometry : GeometryFits m.me.geometry
  pub who : m.me.who < m.me.geometry.clients
  pub root : m.root < 16
  pub block : m.block < address_limit

-- the control of its calls
abbrev pub open_parts : Control OpenCall OpenAnswer
open_parts = or_control word_control (or_control alloc_control (or_control up_control drop_root))

-- what the plan does: its identity and its line, its calls, and where it goes by their answers
abbrev pub open_steered : Steered OpenState OpenCall OpenAnswer (Result (Unit {0}) PutFault)
open_steered =
    record {
      me = λ m. m.me;
      line = λ m. [];
      first = λ m. is_look m.point;
      start = λ m. record m { root = 0; block = 0; point = Look };
      call = λ m. open_call_at m m.point;
      after = open_after;
      turns = open_turns;
    }
