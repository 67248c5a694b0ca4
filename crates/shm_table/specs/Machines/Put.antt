-- a put: its control, and what it gives as it is made
use Rattle.std.specs.Prelude.{ℕ}
use Rattle.shm_graph.specs.{declared.{ask.Me.Me, memo.Memo.Memo}, Asks.Trail, Laws.Control}
use Rattle.plans.specs.{CallsControl.{calls_control, calls_of}, CallsFit.CallsGives}
use Rattle.shm_script.specs.declared.log.Answer.{Answer}
use Rattle.shm_table.specs.Put.{Control.{PutCalls, put_parts, putting, put_steered}, put_plan}

-- ---- a key comes to have a number

abbrev pub put : Control PutCalls Answer
put = calls_control put_parts put_steered

abbrev pub PutGives : Me → ℕ → ℕ → Memo → Memo → Trail → Answer → Type 0
PutGives me key n = CallsGives put_parts put_plan (calls_of put_steered (putting me key n))
