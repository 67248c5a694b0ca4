-- the control of a put: which call comes next, and where it goes by what that call answered
use Rattle.std.specs.Prelude.{ℕ, ◌%◌, ◌<◌, Bool, true, false, Option, Some, None, Result, Ok, Err, [], ◌∷◌}
use Rattle.shm_words.specs.Layout.{GeometryFits, address_limit}
use Rattle.shm_graph.specs.{declared.ask.Me.Me, Laws.Control}
use Rattle.plans.specs.{declared.{calls.Calls.Calls, or.Or.{Or, TheVariants.{First, Second}}}, CallsControl.calls_of}
use Rattle.plans.specs.{Either.or_control, Steering.Steered}
use Rattle.shm_count.specs.declared.answer.{EraSpent.EraSpent, Made.Made}
use Rattle.shm_alloc.specs.declared.{alloc.AllocFault.AllocFault, point.AllocState.AllocState, request.Request.Request}
use Rattle.shm_alloc.specs.Alloc.Control.{alloc_control}
use Rattle.shm_alloc.specs.declared.point.AllocPoint.TheVariants as alloc
use Rattle.shm_ref.specs.{DropRoot.Control.{dropping, drop_steered}, DropRoots.Control.{RootsCall, drop_root}}
use Rattle.shm_table.specs.declared.{answer.PutFault.PutFault, put.{PutPoint.PutPoint, PutState.PutState}}
use Rattle.shm_table.specs.Answers.{fault_answer, made_fault, spent_fault}
use Rattle.shm_table.specs.PutRoot.Control.{PutRootCalls, decided_of, fault_of, putting_root, put_root_steered, put_root_control}
use Rattle.shm_table.specs.declared.put.PutPoint.TheVariants as point
use Rattle.shm_script.specs.{declared.log.Answer.{Answer, TheVariants.Stored}, Text.line_spelled}
use Rattle.shm_script.specs.declared.line.Line.TheVariants as line

-- ---- its calls

abbrev pub PutCall : Type 0
PutCall = Or AllocState (Or PutRootCalls RootsCall)

abbrev pub PutAnswer : Type 0
PutAnswer = Or (Result Made AllocFault) (Or (Result Bool PutFault) (Result Bool EraSpent))

-- a block with the words of a value block, of which the number is the plain one
abbrev pub value_request : ℕ → Request
value_request n = record { refs = 0; count = 1; plain = n ∷ 0 ∷ 0 ∷ 0 ∷ 0 ∷ 0 ∷ 0 ∷ 0 ∷ []; near = record { segment = 0; page = 0; index = 0 } }

-- its states
abbrev pub PutCalls : Type 0
PutCalls = Calls PutState PutCall

-- before its first call
abbrev pub putting : Me → ℕ → ℕ → PutState
putting me key n = record { me = me; key = key; number = n; root = 0; block = 0; decided = false; refused = None; point = point.Make }

abbrev pub put_call_at : PutState → PutPoint → PutCall
put_call_at m point.Make = First (record { me = m.me; request = value_request m.number; point = alloc.Era })
put_call_at m point.Put = Second (First (calls_of put_root_steered (putting_root m.me m.key m.block)))
put_call_at m point.Drop = Second (Second (calls_of drop_steered (dropping m.me m.root)))

-- ---- where it goes

-- what it answers, and what where the root of the value block stays
abbrev pub put_answer : ℕ → Option PutFault → Answer
put_answer b None = Stored b
put_answer b (Some f) = fault_answer f

abbrev pub stuck_answer : ℕ → Option PutFault → EraSpent → Answer
stuck_answer b None e = Stored b
stuck_answer b (Some f) e = fault_answer (spent_fault e)

abbrev pub put_after : PutState → PutAnswer → PutState
put_after m (First (Ok made)) = record m { root = made.root % 16; block = made.block % address_limit; point = point.Put }
put_after m (First (Err f)) = m
put_after m (Second (First done)) = record m { decided = decided_of done; refused = fault_of done; point = point.Drop }
put_after m (Second (Second a)) = m

abbrev pub put_turns : PutState → PutAnswer → Option Answer
put_turns m (First (Ok made)) = None
put_turns m (First (Err f)) = Some (fault_answer (made_fault f))
put_turns m (Second (First done)) = None
put_turns m (Second (Second (Ok z))) = Some (put_answer m.block m.refused)
put_turns m (Second (Second (Err e))) = Some (stuck_answer m.block m.refused e)

abbrev pub is_make : PutPoint → Bool
is_make point.Make = true
is_make y = false

-- what the control keeps in range
pub record PutInRange (m : PutState) : Type 0 where
  pub geometry : GeometryFits m.me.geometry
  pub who : m.me.who < m.me.geometry.clients
  pub root : m.root < 16
  pub block : m.block < address_limit

-- the control of its calls
abbrev pub put_parts : Control PutCall PutAnswer
put_parts = or_control alloc_control (or_control put_root_control drop_root)

-- what the plan does: its identity and its line, its calls, and where it goes by their answers
abbrev pub put_steered : Steered PutState PutCall PutAnswer Answer
put_steered =
    record {
      me = λ m. m.me;
      line = λ m. line_spelled (line.Put m.key m.number);
      first = λ m. is_make m.point;
      start = λ m. putting m.me m.key m.number;
      call = λ m. put_call_at m m.point;
      after = put_after;
      turns = put_turns;
    }
