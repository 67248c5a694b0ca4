-- the control of a copy: which call comes next, and where it goes by what that call answered
use Rattle.std.specs.Prelude.{ℕ, ◌%◌, ◌<◌, Bool, true, false, Option, Some, None, Result, Ok, Err}
use Rattle.shm_words.specs.Layout.{GeometryFits, address_limit}
use Rattle.shm_graph.specs.{declared.ask.Me.Me, Laws.Control}
use Rattle.plans.specs.declared.{calls.Calls.Calls, or.Or.{Or, TheVariants.{First, Second}}}
use Rattle.plans.specs.{CallsControl.{calls_control, calls_of}, Either.or_control, Steering.Steered}
use Rattle.shm_count.specs.declared.answer.EraSpent.{EraSpent}
use Rattle.shm_ref.specs.{DropRoot.Control.{dropping, drop_steered}, DropRoots.Control.{RootsCall, drop_root}}
use Rattle.shm_script.specs.{declared.log.Answer.Answer, Text.line_spelled}
use Rattle.shm_script.specs.declared.log.Answer.TheVariants as answer
use Rattle.shm_script.specs.declared.line.Line.TheVariants as line
use Rattle.shm_table.specs.declared.{answer.PutFault.PutFault, copy.{CopyPoint.CopyPoint, CopyState.CopyState}}
use Rattle.shm_table.specs.declared.fetch.{FetchState.FetchState, Fetched.Fetched}
use Rattle.shm_table.specs.declared.fetch.Fetched.TheVariants.{Missing, Refused, Rooted}
use Rattle.shm_table.specs.Answers.{fault_answer, spent_fault}
use Rattle.shm_table.specs.Fetch.Control.{FetchCall, fetch_parts, fetching, fetch_steered}
use Rattle.shm_table.specs.PutRoot.Control.{PutRootCalls, decided_of, fault_of, putting_root, put_root_steered, put_root_control}
use Rattle.shm_table.specs.declared.copy.CopyPoint.TheVariants as point

-- ---- its calls

-- a fetch as a call
abbrev pub FetchCalls : Type 0
FetchCalls = Calls FetchState FetchCall

abbrev pub fetch_control : Control FetchCalls Fetched
fetch_control = calls_control fetch_parts fetch_steered

abbrev pub CopyCall : Type 0
CopyCall = Or FetchCalls (Or PutRootCalls RootsCall)

abbrev pub CopyAnswer : Type 0
CopyAnswer = Or Fetched (Or (Result Bool PutFault) (Result Bool EraSpent))

-- its states
abbrev pub CopyCalls : Type 0
CopyCalls = Calls CopyState CopyCall

-- before its first call
abbrev pub copying : Me → ℕ → ℕ → ℕ → CopyState
copying me key a other = record { me = me; key = key; author = a; other = other; root = 0; block = 0; number = 0; decided = false; refused = None; point = point.Fetch }

abbrev pub copy_call_at : CopyState → CopyPoint → CopyCall
copy_call_at m point.Fetch = First (calls_of fetch_steered (fetching m.me m.author m.other))
copy_call_at m point.Put = Second (First (calls_of put_root_steered (putting_root m.me m.key m.block)))
copy_call_at m point.Drop = Second (Second (calls_of drop_steered (dropping m.me m.root)))

-- ---- where it goes

-- what it answers, and what where the root of the value block stays
abbrev pub copy_answer : ℕ → ℕ → Option PutFault → Answer
copy_answer n b None = answer.Value n b
copy_answer n b (Some f) = fault_answer f

abbrev pub stuck_answer : ℕ → ℕ → Option PutFault → EraSpent → Answer
stuck_answer n b None e = answer.Value n b
stuck_answer n b (Some f) e = fault_answer (spent_fault e)

-- by what was fetched
abbrev pub fetched_after : CopyState → Fetched → CopyState
fetched_after m Missing = m
fetched_after m (Refused f) = m
fetched_after m (Rooted k b n) = record m { root = k % 16; block = b % address_limit; number = n; point = point.Put }

abbrev pub fetched_turns : Fetched → Option Answer
fetched_turns Missing = Some answer.Missing
fetched_turns (Refused f) = Some (fault_answer f)
fetched_turns (Rooted k b n) = None

abbrev pub copy_after : CopyState → CopyAnswer → CopyState
copy_after m (First a) = fetched_after m a
copy_after m (Second (First done)) = record m { decided = decided_of done; refused = fault_of done; point = point.Drop }
copy_after m (Second (Second a)) = m

abbrev pub copy_turns : CopyState → CopyAnswer → Option Answer
copy_turns m (First a) = fetched_turns a
copy_turns m (Second (First done)) = None
copy_turns m (Second (Second (Ok z))) = Some (copy_answer m.number m.block m.refused)
copy_turns m (Second (Second (Err e))) = Some (stuck_answer m.number m.block m.refused e)

abbrev pub is_fetch : CopyPoint → Bool
is_fetch point.Fetch = true
is_fetch y = false

-- what the control keeps in range
pub record CopyInRange (m : CopyState) : Type 0 where
  pub geometry : GeometryFits m.me.geometry
  pub who : m.me.who < m.me.geometry.clients
  pub author : m.author < m.me.geometry.clients
  pub root : m.root < 16
  pub block : m.block < address_limit

-- the control of its calls
abbrev pub copy_parts : Control CopyCall CopyAnswer
copy_parts = or_control fetch_control (or_control put_root_control drop_root)

-- what the plan does: its identity and its line, its calls, and where it goes by their answers
abbrev pub copy_steered : Steered CopyState CopyCall CopyAnswer Answer
copy_steered =
    record {
      me = λ m. m.me;
      line = λ m. line_spelled (line.Copy m.key m.author m.other);
      first = λ m. is_fetch m.point;
      start = λ m. copying m.me m.key m.author m.other;
      call = λ m. copy_call_at m m.point;
      after = copy_after;
      turns = copy_turns;
    }
