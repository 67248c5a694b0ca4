-- the control of a recovery: which call comes next, and where it goes by what that call answered
use Rattle.std.specs.Prelude.{ℕ, ◌<◌, Bool, true, false, ◌==◌, if◌then◌else◌, Option, Some, None, Result, Ok, Err, List, [], ◌∷◌}
use Rattle.shm_words.specs.Layout.{GeometryFits}
use Rattle.shm_graph.specs.{declared.ask.Me.Me, Laws.Control}
use Rattle.plans.specs.declared.{calls.Calls.Calls, or.Or.{Or, TheVariants.{First, Second}}, word.Word.Word}
use Rattle.plans.specs.{CallsControl.{calls_control, calls_of}, Either.or_control, Words.word_control, Steering.Steered}
use Rattle.shm_count.specs.declared.answer.EraSpent.{EraSpent}
use Rattle.shm_ref.specs.declared.drop_roots.RootsState.{RootsState}
use Rattle.shm_ref.specs.DropRoots.Control.{RootsCall, drop_root, dropping_roots, roots_steered}
use Rattle.shm_recover.specs.declared.{finish_takes.FinishState.FinishState, give_up.GiveState.GiveState}
use Rattle.shm_recover.specs.declared.{mend.MendState.MendState, recover.RecoverPoint.RecoverPoint}
use Rattle.shm_recover.specs.declared.recover.RecoverPoint.TheVariants.{Mend, Roots, Back, Takes, Scan, Give}
use Rattle.shm_recover.specs.declared.{recover.RecoverState.RecoverState, scan.ScanState.ScanState}
use Rattle.shm_recover.specs.{declared.take_back.BackState.BackState, FinishTakes.Control.{finishing, finish_steered}}
use Rattle.shm_recover.specs.GiveUp.Control.{giving_up, give_steered}
use Rattle.shm_recover.specs.Mend.Control.{MendCall, mend_parts, mending, mend_steered}
use Rattle.shm_recover.specs.Scan.Control.{ScanCall, scan_parts, scanning, scan_steered}
use Rattle.shm_recover.specs.TakeBack.Control.{BackCall, back_parts, taking_back, back_steered}

-- its calls, and what they answer
abbrev pub MendCalls : Type 0
MendCalls = Calls MendState MendCall

abbrev pub RootsCalls : Type 0
RootsCalls = Calls RootsState RootsCall

abbrev pub BackCalls : Type 0
BackCalls = Calls BackState BackCall

abbrev pub FinishCalls : Type 0
FinishCalls = Calls FinishState Word

abbrev pub ScanCalls : Type 0
ScanCalls = Calls ScanState ScanCall

abbrev pub GiveCalls : Type 0
GiveCalls = Calls GiveState Word

abbrev pub RecoverCall : Type 0
RecoverCall = Or MendCalls (Or RootsCalls (Or BackCalls (Or FinishCalls (Or ScanCalls GiveCalls))))

abbrev pub RecoverAnswer : Type 0
RecoverAnswer = Or (Unit {0}) (Or (Result (Unit {0}) EraSpent) (Or (Result (Unit {0}) EraSpent) (Or (Unit {0}) (Or (Result ℕ EraSpent) (Unit {0})))))

-- the control of its calls
abbrev pub mend_control : Control MendCalls (Unit {0})
mend_control = calls_control mend_parts mend_steered

abbrev pub roots_control : Control RootsCalls (Result (Unit {0}) EraSpent)
roots_control = calls_control drop_root roots_steered

abbrev pub back_control : Control BackCalls (Result (Unit {0}) EraSpent)
back_control = calls_control back_parts back_steered

abbrev pub finish_control : Control FinishCalls (Unit {0})
finish_control = calls_control word_control finish_steered

abbrev pub scan_control : Control ScanCalls (Result ℕ EraSpent)
scan_control = calls_control scan_parts scan_steered

abbrev pub give_control : Control GiveCalls (Unit {0})
give_control = calls_control word_control give_steered

abbrev pub recover_parts : Control RecoverCall RecoverAnswer
recover_parts = or_control mend_control (or_control roots_control (or_control back_control (or_control finish_control (or_control scan_control give_control))))

-- the bytes of `recover`
abbrev pub recover_line : List ℕ
recover_line = 114 ∷ 101 ∷ 99 ∷ 111 ∷ 118 ∷ 101 ∷ 114 ∷ []

-- before its first call
abbrev pub recovering : Me → RecoverState
recovering me = record { me = me; point = Mend }

abbrev pub recover_call_at : RecoverState → RecoverPoint → RecoverCall
recover_call_at m Mend = First (calls_of mend_steered (mending m.me))
recover_call_at m Roots = Second (First (calls_of roots_steered (dropping_roots m.me)))
recover_call_at m Back = Second (Second (First (calls_of back_steered (taking_back m.me))))
recover_call_at m Takes = Second (Second (Second (First (calls_of finish_steered (finishing m.me)))))
recover_call_at m Scan = Second (Second (Second (Second (First (calls_of scan_steered (scanning m.me))))))
recover_call_at m Give = Second (Second (Second (Second (Second (calls_of give_steered (giving_up m.me))))))

-- on to queues; a pool of one client has none
abbrev pub queues_next : RecoverState → RecoverPoint → RecoverState
queues_next m y = if m.me.geometry.clients == 1 then record m { point = Scan } else record m { point = y }

abbrev pub recover_after : RecoverState → RecoverAnswer → RecoverState
recover_after m (First done) = record m { point = Roots }
recover_after m (Second (First (Ok done))) = queues_next m Back
recover_after m (Second (Second (First (Ok done)))) = queues_next m Takes
recover_after m (Second (Second (Second (First done)))) = record m { point = Scan }
recover_after m (Second (Second (Second (Second (First (Ok n)))))) = record m { point = Give }
recover_after m _ = m

abbrev pub recover_turns : RecoverAnswer → Option (Result (Unit {0}) EraSpent)
recover_turns (Second (First (Err e))) = Some (Err e)
recover_turns (Second (Second (First (Err e)))) = Some (Err e)
recover_turns (Second (Second (Second (Second (First (Err e)))))) = Some (Err e)
recover_turns (Second (Second (Second (Second (Second done))))) = Some (Ok tt)
recover_turns _ = None

abbrev pub is_mend : RecoverPoint → Bool
is_mend Mend = true
is_mend y = false

-- the pool has queues where they are gone through
abbrev pub HasQueuesAt : Me → RecoverPoint → Type 0
HasQueuesAt me Back = 1 < me.geometry.clients
HasQueuesAt me Takes = 1 < me.geometry.clients
HasQueuesAt me y = Unit {0}

-- what the control keeps in range; queues are gone through only where there are any
pub record RecoverInRange (m : RecoverState) : Type 0 where
  pub geometry : GeometryFits m.me.geometry
  pub who : m.me.who < m.me.geometry.clients
  pub queues : HasQueuesAt m.me m.point

-- what the plan does: its identity and its line, its calls, and where it goes by their answers
abbrev pub recover_steered : Steered RecoverState RecoverCall RecoverAnswer (Result (Unit {0}) EraSpent)
recover_steered =
    record {
      me = λ m. m.me;
      line = λ m. recover_line;
      first = λ m. is_mend m.point;
      start = λ m. record m { point = Mend };
      call = λ m. recover_call_at m m.point;
      after = recover_after;
      turns = λ m. recover_turns;
    }
