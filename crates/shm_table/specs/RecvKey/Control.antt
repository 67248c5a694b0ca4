-- the control of a receive into a table: which call comes next, and where it goes by what that call answered
use Rattle.std.specs.Prelude.{ℕ, ◌%◌, ◌<◌, Bool, true, false, Option, Some, None, Result, Ok, Err}
use Rattle.shm_words.specs.Layout.{GeometryFits, address_limit}
use Rattle.shm_graph.specs.{declared.ask.Me.Me, Laws.Control}
use Rattle.plans.specs.declared.{calls.Calls.Calls, or.Or.{Or, TheVariants.{First, Second}}}
use Rattle.plans.specs.{CallsControl.{calls_control, calls_of}, Either.or_control, Steering.Steered}
use Rattle.shm_count.specs.declared.answer.EraSpent.{EraSpent}
use Rattle.shm_ref.specs.{DropRoot.Control.{dropping, drop_steered}, DropRoots.Control.{RootsCall, drop_root}}
use Rattle.shm_script.specs.{declared.log.Answer.Answer, Text.line_spelled}
use Rattle.shm_script.specs.declared.log.Answer.TheVariants as answer
use Rattle.shm_script.specs.declared.line.Line.TheVariants as line
use Rattle.shm_table.specs.declared.{answer.PutFault.PutFault, fetch_head.FetchHeadState.FetchHeadState}
use Rattle.shm_table.specs.declared.fetch_head.FetchedHead.{FetchedHead, TheVariants.{Empty, Refused, Rooted}}
use Rattle.shm_table.specs.declared.recv.{RecvPoint.RecvPoint, RecvState.RecvState}
use Rattle.shm_table.specs.{declared.take_head.TakeHeadState.TakeHeadState, Answers.fault_answer}
use Rattle.shm_table.specs.CopyKey.Control.{copy_answer, stuck_answer}
use Rattle.shm_table.specs.FetchHead.Control.{FetchHeadCall, fetch_head_parts, fetching_head, fetch_head_steered}
use Rattle.shm_table.specs.PutRoot.Control.{PutRootCalls, putting_root, put_root_steered, put_root_control}
use Rattle.shm_table.specs.TakeHead.Control.{TakeHeadCall, take_head_parts, taking_head, take_head_steered}
use Rattle.shm_table.specs.declared.recv.RecvPoint.TheVariants as point

-- ---- its calls

-- the fetch and the taking as calls
abbrev pub FetchHeadCalls : Type 0
FetchHeadCalls = Calls FetchHeadState FetchHeadCall

abbrev pub fetch_head_control : Control FetchHeadCalls FetchedHead
fetch_head_control = calls_control fetch_head_parts fetch_head_steered

abbrev pub TakeHeadCalls : Type 0
TakeHeadCalls = Calls TakeHeadState TakeHeadCall

abbrev pub take_head_control : Control TakeHeadCalls (Result (Unit {0}) EraSpent)
take_head_control = calls_control take_head_parts take_head_steered

abbrev pub RecvCall : Type 0
RecvCall = Or (Or FetchHeadCalls TakeHeadCalls) (Or PutRootCalls RootsCall)

abbrev pub RecvAnswer : Type 0
RecvAnswer = Or (Or FetchedHead (Result (Unit {0}) EraSpent)) (Or (Result Bool PutFault) (Result Bool EraSpent))

-- its states
abbrev pub RecvCalls : Type 0
RecvCalls = Calls RecvState RecvCall

-- before its first call
abbrev pub receiving_key : Me → ℕ → ℕ → RecvState
receiving_key me s key = record { me = me; from = s; key = key; root = 0; block = 0; number = 0; at = 0; decided = false; refused = None; point = point.Fetch }

abbrev pub recv_call_at : RecvState → RecvPoint → RecvCall
recv_call_at m point.Fetch = First (First (calls_of fetch_head_steered (fetching_head m.me m.from)))
recv_call_at m point.Take = First (Second (calls_of take_head_steered (taking_head m.me m.from m.at m.block)))
recv_call_at m point.Put = Second (First (calls_of put_root_steered (putting_root m.me m.key m.block)))
recv_call_at m point.Drop = Second (Second (calls_of drop_steered (dropping m.me m.root)))

-- ---- where it goes

-- by what was fetched
abbrev pub fetched_after : RecvState → FetchedHead → RecvState
fetched_after m (Empty n) = m
fetched_after m (Refused f) = m
fetched_after m (Rooted k b v n) = record m { root = k % 16; block = b % address_limit; number = v; at = n; point = point.Put }

abbrev pub fetched_turns : FetchedHead → Option Answer
fetched_turns (Empty n) = Some (answer.Empty n)
fetched_turns (Refused f) = Some (fault_answer f)
fetched_turns (Rooted k b v n) = None

-- by whether the key has the value block: the head is taken only then
abbrev pub put_after : RecvState → Result Bool PutFault → RecvState
put_after m (Ok z) = record m { decided = z; refused = None; point = point.Take }
put_after m (Err f) = record m { decided = false; refused = Some f; point = point.Drop }

abbrev pub recv_after : RecvState → RecvAnswer → RecvState
recv_after m (First (First a)) = fetched_after m a
recv_after m (First (Second a)) = record m { point = point.Drop }
recv_after m (Second (First done)) = put_after m done
recv_after m (Second (Second a)) = m

abbrev pub recv_turns : RecvState → RecvAnswer → Option Answer
recv_turns m (First (First a)) = fetched_turns a
recv_turns m (First (Second a)) = None
recv_turns m (Second (First done)) = None
recv_turns m (Second (Second (Ok z))) = Some (copy_answer m.number m.block m.refused)
recv_turns m (Second (Second (Err e))) = Some (stuck_answer m.number m.block m.refused e)

abbrev pub is_fetch : RecvPoint → Bool
is_fetch point.Fetch = true
is_fetch y = false

-- what the control keeps in range
pub record RecvInRange (m : RecvState) : Type 0 where
  pub geometry : GeometryFits m.me.geometry
  pub who : m.me.who < m.me.geometry.clients
  pub from : m.from < m.me.geometry.clients
  pub root : m.root < 16
  pub block : m.block < address_limit

-- the control of its calls
abbrev pub recv_parts : Control RecvCall RecvAnswer
recv_parts = or_control (or_control fetch_head_control take_head_control) (or_control put_root_control drop_root)

-- what the plan does: its identity and its line, its calls, and where it goes by their answers
abbrev pub recv_steered : Steered RecvState RecvCall RecvAnswer Answer
recv_steered =
    record {
      me = λ m. m.me;
      line = λ m. line_spelled (line.Recv m.from m.key);
      first = λ m. is_fetch m.point;
      start = λ m. receiving_key m.me m.from m.key;
      call = λ m. recv_call_at m m.point;
      after = recv_after;
      turns = recv_turns;
    }
