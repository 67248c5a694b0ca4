-- a leaving: its control, and what it gives as it is made
pub mod Recovering
use Rattle.std.specs.Prelude.{Result}
use Rattle.shm_graph.specs.{declared.{ask.Me.Me, memo.Memo.Memo}, Asks.Trail, Laws.Control}
use Rattle.plans.specs.{declared.calls.Calls.Calls, CallsControl.{calls_control, calls_of}, CallsFit.CallsGives}
use Rattle.shm_count.specs.declared.answer.EraSpent.{EraSpent}
use Rattle.shm_recover.specs.declared.leave.LeaveState.{LeaveState}
use Rattle.shm_recover.specs.Leave.{Control.{LeaveCall, leave_parts, leaving, leave_steered}, leave_plan}

abbrev pub leave : Control (Calls LeaveState LeaveCall) (Result (Unit {0}) EraSpent)
leave = calls_control leave_parts leave_steered

abbrev pub LeaveGives : Me → Memo → Memo → Trail → Result (Unit {0}) EraSpent → Type 0
LeaveGives me = CallsGives leave_parts leave_plan (calls_of leave_steered (leaving me))
