-- the removal of a key: its control, and what it gives as it is made
use Rattle.std.specs.Prelude.{ℕ}
use Rattle.shm_graph.specs.{declared.{ask.Me.Me, memo.Memo.Memo}, Asks.Trail, Laws.Control}
use Rattle.plans.specs.{CallsControl.{calls_control, calls_of}, CallsFit.CallsGives}
use Rattle.shm_script.specs.declared.log.Answer.{Answer}
use Rattle.shm_table.specs.Del.{Control.{DelCalls, del_parts, deleting, del_steered}, del_plan}

-- ---- the key is to be removed

abbrev pub del : Control DelCalls Answer
del = calls_control del_parts del_steered

abbrev pub DelGives : Me → ℕ → Memo → Memo → Trail → Answer → Type 0
DelGives me key = CallsGives del_parts del_plan (calls_of del_steered (deleting me key))
