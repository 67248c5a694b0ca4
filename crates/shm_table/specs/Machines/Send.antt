-- the send of what a key has: its control, and what it gives as it is made
use Rattle.std.specs.Prelude.{ℕ}
use Rattle.shm_graph.specs.{declared.{ask.Me.Me, memo.Memo.Memo}, Asks.Trail, Laws.Control}
use Rattle.plans.specs.{CallsControl.{calls_control, calls_of}, CallsFit.CallsGives}
use Rattle.shm_script.specs.declared.log.Answer.{Answer}
use Rattle.shm_table.specs.SendKey.Control.{SendKeyCalls, send_key_parts, sending_key, send_key_steered}
use Rattle.shm_table.specs.SendKey.{send_key_plan}

-- ---- what a key has goes into the queue to i

abbrev pub send_key : Control SendKeyCalls Answer
send_key = calls_control send_key_parts send_key_steered

abbrev pub SendKeyGives : Me → ℕ → ℕ → Memo → Memo → Trail → Answer → Type 0
SendKeyGives me i key = CallsGives send_key_parts send_key_plan (calls_of send_key_steered (sending_key me i key))
