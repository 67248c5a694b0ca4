-- a receive: its control, and what it gives as it is made
use Rattle.std.specs.Prelude.{ℕ}
use Rattle.shm_graph.specs.{declared.{ask.Me.Me, memo.Memo.Memo}, Asks.Trail, Laws.Control}
use Rattle.plans.specs.{CallsControl.{calls_control, calls_of}, CallsFit.CallsGives}
use Rattle.shm_script.specs.declared.log.Answer.{Answer}
use Rattle.shm_table.specs.RecvKey.{Control.{RecvCalls, receiving_key, recv_parts, recv_steered}, recv_plan}

-- ---- a key is to have the value block at the head of the queue from s

abbrev pub recv_control : Control RecvCalls Answer
recv_control = calls_control recv_parts recv_steered

abbrev pub RecvGives : Me → ℕ → ℕ → Memo → Memo → Trail → Answer → Type 0
RecvGives me s key = CallsGives recv_parts recv_plan (calls_of recv_steered (receiving_key me s key))
