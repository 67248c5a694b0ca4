-- the reading of what a key has: its control, and what it gives as it is made
use Rattle.std.specs.Prelude.{ℕ}
use Rattle.shm_graph.specs.{declared.{ask.Me.Me, memo.Memo.Memo}, Asks.Trail, Laws.Control}
use Rattle.plans.specs.{CallsControl.{calls_control, calls_of}, CallsFit.CallsGives}
use Rattle.shm_script.specs.declared.log.Answer.{Answer}
use Rattle.shm_table.specs.Get.{Control.{GetCalls, get_parts, getting, get_steered}, get_plan}

-- ---- what a key has in the table of a

abbrev pub get : Control GetCalls Answer
get = calls_control get_parts get_steered

abbrev pub GetGives : Me → ℕ → ℕ → Memo → Memo → Trail → Answer → Type 0
GetGives me a key = CallsGives get_parts get_plan (calls_of get_steered (getting me a key))
