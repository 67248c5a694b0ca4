-- the control of putting a value block into the own table: which call comes next, and where it goes by what that call answered
use Rattle.std.specs.Prelude.{ℕ, ◌+◌, ◌-◌, ◌%◌, ◌<◌, nat_lt, Bool, true, false, if◌then◌else◌, Option, Some, None, IfSome, Result, Ok, Err, []}
use Rattle.shm_words.specs.Layout.{GeometryFits, address_limit}
use Rattle.shm_graph.specs.{declared.ask.Me.Me, Laws.Control}
use Rattle.plans.specs.declared.{calls.Calls.Calls, or.Or.{Or, TheVariants.{First, Second}}}
use Rattle.plans.specs.{CallsControl.{calls_control, calls_of}, Either.or_control, Steering.Steered}
use Rattle.shm_count.specs.declared.answer.EraSpent.{EraSpent}
use Rattle.shm_ref.specs.{DropRoot.Control.{dropping, drop_steered}, DropRoots.Control.{RootsCall, drop_root}}
use Rattle.shm_table.specs.declared.{answer.PutFault.PutFault, enter.Entered.Entered}
use Rattle.shm_table.specs.declared.enter.{Entered.TheVariants.{Linked, Unlinked, Unmade}, EnterState.EnterState}
use Rattle.shm_table.specs.declared.{find.Found.{Found, TheVariants.{Absent, At}}, open_table.OpenState.OpenState}
use Rattle.shm_table.specs.declared.put_root.{PutRootPoint.PutRootPoint, PutRootState.PutRootState}
use Rattle.shm_table.specs.{declared.replace.ReplaceState.ReplaceState, Answers.spent_fault}
use Rattle.shm_table.specs.Enter.Control.{EnterCall, enter_parts, entering, enter_steered}
use Rattle.shm_table.specs.Locate.Control.{locating, locate_steered, LocateCalls, locate_control}
use Rattle.shm_table.specs.OpenTable.Control.{OpenCall, open_parts, opening, open_steered}
use Rattle.shm_table.specs.Replace.Control.{ReplaceCall, replace_parts, replacing, replace_steered}
use Rattle.shm_table.specs.Unlatch.Control.{UnlatchCalls, unlatch_control, unlatching, unlatch_steered}
use Rattle.shm_table.specs.declared.put_root.PutRootPoint.TheVariants as point

-- ---- its calls

abbrev pub OpenCalls : Type 0
OpenCalls = Calls OpenState OpenCall

abbrev pub open_control : Control OpenCalls (Result (Unit {0}) PutFault)
open_control = calls_control open_parts open_steered

abbrev pub ReplaceCalls : Type 0
ReplaceCalls = Calls ReplaceState ReplaceCall

abbrev pub replace_control : Control ReplaceCalls (Result Bool PutFault)
replace_control = calls_control replace_parts replace_steered

abbrev pub EnterCalls : Type 0
EnterCalls = Calls EnterState EnterCall

abbrev pub enter_control : Control EnterCalls Entered
enter_control = calls_control enter_parts enter_steered

-- what it calls, and what they answer
abbrev pub PutRootCall : Type 0
PutRootCall = Or (Or OpenCalls LocateCalls) (Or (Or ReplaceCalls EnterCalls) (Or UnlatchCalls RootsCall))

abbrev pub PutRootAnswer : Type 0
PutRootAnswer = Or (Or (Result (Unit {0}) PutFault) Found) (Or (Or (Result Bool PutFault) Entered) (Or (Unit {0}) (Result Bool EraSpent)))

-- it as a call of larger machines
abbrev pub PutRootCalls : Type 0
PutRootCalls = Calls PutRootState PutRootCall

-- before its first call
abbrev pub putting_root : Me → ℕ → ℕ → PutRootState
putting_root me key v = record { me = me; key = key; value = v; home = 0; first = 0; entry = 0; root = None; decided = false; refused = None; point = point.Open }

-- the root of a new entry
abbrev pub root_or : Option ℕ → ℕ
root_or (Some k) = k
root_or None = 0

abbrev pub put_root_call : PutRootState → PutRootPoint → PutRootCall
put_root_call m point.Open = First (First (calls_of open_steered (opening m.me)))
put_root_call m point.Locate = First (Second (calls_of locate_steered (locating m.me m.me.who m.key)))
put_root_call m point.Replace = Second (First (First (calls_of replace_steered (replacing m.me m.entry m.value))))
put_root_call m point.Enter = Second (First (Second (calls_of enter_steered (entering m.me m.key m.value m.home m.first))))
put_root_call m point.Unlatch = Second (Second (First (calls_of unlatch_steered (unlatching m.me m.me.who))))
put_root_call m point.Drop = Second (Second (Second (calls_of drop_steered (dropping m.me (root_or m.root)))))

-- ---- where it goes

-- a directory that lies in a pool
abbrev pub home_of : ℕ → ℕ
home_of b = if nat_lt b (address_limit - 17) then b else 0

-- by where the key is
abbrev pub located_after : PutRootState → Found → PutRootState
located_after m (At entry before word) = record m { entry = entry % address_limit; point = point.Replace }
located_after m (Absent home first) = record m { home = home_of home; first = first % address_limit; point = point.Enter }

-- by why the entry hasn't the block, and by whether it came to have it
abbrev pub fault_of : Result Bool PutFault → Option PutFault
fault_of (Ok z) = None
fault_of (Err f) = Some f

abbrev pub decided_of : Result Bool PutFault → Bool
decided_of (Ok z) = z
decided_of (Err f) = false

-- by whether a new entry was linked
abbrev pub entered_after : PutRootState → Entered → PutRootState
entered_after m (Linked k) = record m { root = Some (k % 16); decided = true; refused = None; point = point.Unlatch }
entered_after m (Unlinked k f) = record m { root = Some (k % 16); refused = Some f; point = point.Unlatch }
entered_after m (Unmade f) = record m { refused = Some f; point = point.Unlatch }

-- what it answers where nothing more was refused, and where the root of the new entry stays
abbrev pub put_answer : Bool → Option PutFault → Result Bool PutFault
put_answer z None = Ok z
put_answer z (Some f) = Err f

abbrev pub stuck_answer : Bool → Option PutFault → EraSpent → Result Bool PutFault
stuck_answer z None e = Ok z
stuck_answer z (Some f) e = Err (spent_fault e)

-- once the latch is given back
abbrev pub freed_turns : PutRootState → Option ℕ → Option (Result Bool PutFault)
freed_turns m None = Some (put_answer m.decided m.refused)
freed_turns m (Some k) = None

abbrev pub put_root_after : PutRootState → PutRootAnswer → PutRootState
put_root_after m (First (First (Ok done))) = record m { point = point.Locate }
put_root_after m (First (First (Err f))) = m
put_root_after m (First (Second found)) = located_after m found
put_root_after m (Second (First (First done))) = record m { decided = decided_of done; refused = fault_of done; point = point.Unlatch }
put_root_after m (Second (First (Second entered))) = entered_after m entered
put_root_after m (Second (Second (First done))) = record m { point = point.Drop }
put_root_after m (Second (Second (Second a))) = m

abbrev pub put_root_turns : PutRootState → PutRootAnswer → Option (Result Bool PutFault)
put_root_turns m (First (First (Ok done))) = None
put_root_turns m (First (First (Err f))) = Some (Err f)
put_root_turns m (First (Second found)) = None
put_root_turns m (Second (First a)) = None
put_root_turns m (Second (Second (First done))) = freed_turns m m.root
put_root_turns m (Second (Second (Second (Ok z)))) = Some (put_answer m.decided m.refused)
put_root_turns m (Second (Second (Second (Err e)))) = Some (stuck_answer m.decided m.refused e)

abbrev pub is_open : PutRootPoint → Bool
is_open point.Open = true
is_open y = false

-- what the control keeps in range
pub record PutRootInRange (m : PutRootState) : Type 0 where
  pub geometry : GeometryFits m.me.geometry
  pub who : m.me.who < m.me.geometry.clients
  pub value : m.value < address_limit
  pub home : m.home + 17 < address_limit
  pub first : m.first < address_limit
  pub entry : m.entry < address_limit
  pub root : IfSome m.root (λ k. k < 16)

-- the control of its calls
abbrev pub put_root_parts : Control PutRootCall PutRootAnswer
put_root_parts = or_control (or_control open_control locate_control) (or_control (or_control replace_control enter_control) (or_control unlatch_control drop_root))

-- what the plan does: its identity and its line, its calls, and where it goes by their answers
abbrev pub put_root_steered : Steered PutRootState PutRootCall PutRootAnswer (Result Bool PutFault)
put_root_steered =
    record {
      me = λ m. m.me;
      line = λ m. [];
      first = λ m. is_open m.point;
      start = λ m. putting_root m.me m.key m.value;
      call = λ m. put_root_call m m.point;
      after = put_root_after;
      turns = put_root_turns;
    }

-- its control
abbrev pub put_root_control : Control PutRootCalls (Result Bool PutFault)
put_root_control = calls_control put_root_parts put_root_steered
