-- the controls of machines that larger ones call, and a closing
use Rattle.std.specs.Prelude.{ℕ, Result}
use Rattle.shm_graph.specs.Laws.{Control}
use Rattle.plans.specs.{declared.calls.Calls.Calls, CallsControl.calls_control}
use Rattle.shm_count.specs.declared.answer.EraSpent.{EraSpent}
use Rattle.shm_queue.specs.declared.{answer.SendFault.SendFault, drain.DrainState.DrainState, send.SendState.SendState}
use Rattle.shm_queue.specs.Drain.Control.{DrainCall, drain_parts, drain_steered}
use Rattle.shm_queue.specs.Send.Control.{SendCall, send_parts, send_steered}

-- ---- the send of block b to i

abbrev pub send : Control (Calls SendState SendCall) (Result ℕ SendFault)
send = calls_control send_parts send_steered

-- ---- the drain of all queues

abbrev pub drain : Control (Calls DrainState DrainCall) (Result ℕ EraSpent)
drain = calls_control drain_parts drain_steered
