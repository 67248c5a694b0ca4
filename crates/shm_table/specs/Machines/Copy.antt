-- a copy: its control, and what it gives as it is made
use Rattle.std.specs.Prelude.{ℕ}
use Rattle.shm_graph.specs.{declared.{ask.Me.Me, memo.Memo.Memo}, Asks.Trail, Laws.Control}
use Rattle.plans.specs.{CallsControl.{calls_control, calls_of}, CallsFit.CallsGives}
use Rattle.shm_script.specs.declared.log.Answer.{Answer}
use Rattle.shm_table.specs.CopyKey.{Control.{CopyCalls, copy_parts, copying, copy_steered}, copy_plan}

-- ---- a key is to have what another one has in the table of a

abbrev pub copy_control : Control CopyCalls Answer
copy_control = calls_control copy_parts copy_steered

abbrev pub CopyGives : Me → ℕ → ℕ → ℕ → Memo → Memo → Trail → Answer → Type 0
CopyGives me key a other = CallsGives copy_parts copy_plan (calls_of copy_steered (copying me key a other))
