-- the controls of a recovery and of the machines that it is made of; and when a recovery fits as it is made, and what it gives
use Rattle.std.specs.Prelude.{ℕ, Result}
use Rattle.shm_graph.specs.{declared.{ask.Me.Me, memo.Memo.Memo}, Asks.Trail, Laws.Control}
use Rattle.plans.specs.{declared.{calls.Calls.Calls, word.Word.Word}, CallsControl.{calls_control, calls_of}}
use Rattle.plans.specs.{CallsFit.{CallsFits, CallsGives}, Words.word_control}
use Rattle.shm_count.specs.declared.answer.EraSpent.{EraSpent}
use Rattle.shm_recover.specs.declared.{finish_takes.FinishState.FinishState, give_up.GiveState.GiveState}
use Rattle.shm_recover.specs.declared.{recover.RecoverState.RecoverState, scan.ScanState.ScanState}
use Rattle.shm_recover.specs.{declared.take_back.BackState.BackState, FinishTakes.Control.finish_steered}
use Rattle.shm_recover.specs.GiveUp.Control.{give_steered}
use Rattle.shm_recover.specs.Recover.{Control.{RecoverCall, recover_parts, recovering, recover_steered}, recover_plan}
use Rattle.shm_recover.specs.Scan.Control.{ScanCall, scan_parts, scan_steered}
use Rattle.shm_recover.specs.TakeBack.Control.{BackCall, back_parts, back_steered}

-- ---- blocks that were put into queues and not sent are taken back

abbrev pub take_back : Control (Calls BackState BackCall) (Result (Unit {0}) EraSpent)
take_back = calls_control back_parts back_steered

-- ---- items that were taken out of queues are received

abbrev pub finish_takes : Control (Calls FinishState Word) (Unit {0})
finish_takes = calls_control word_control finish_steered

-- ---- the scan

abbrev pub scan : Control (Calls ScanState ScanCall) (Result ℕ EraSpent)
scan = calls_control scan_parts scan_steered

-- ---- segments are given up, and the status is gone

abbrev pub give_up : Control (Calls GiveState Word) (Unit {0})
give_up = calls_control word_control give_steered

-- ---- the recovery

abbrev pub recover : Control (Calls RecoverState RecoverCall) (Result (Unit {0}) EraSpent)
recover = calls_control recover_parts recover_steered

abbrev pub RecoverFits : Me → Memo → Memo → Trail → Type 0
RecoverFits me = CallsFits recover_parts recover_plan (calls_of recover_steered (recovering me))

abbrev pub RecoverGives : Me → Memo → Memo → Trail → Result (Unit {0}) EraSpent → Type 0
RecoverGives me = CallsGives recover_parts recover_plan (calls_of recover_steered (recovering me))
