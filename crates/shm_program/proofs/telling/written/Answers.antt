use Rattle.std.proofs.lemmas.Result.{IfOk-weaker}
use Rattle.shm_program.proofs.telling.written.Goals as goal

pub returns-in-Report : goal.returns-in-Report
returns-in-Report c = λ pool table is. rw c.in-Report.is (IfOk-weaker c.report.result _ _ (λ v e. e pool table is) c.report.ensures)

pub returns-in-Summary : goal.returns-in-Summary
returns-in-Summary c = λ pool table is. rw c.in-Summary.is (IfOk-weaker c.summary.result _ _ (λ v e. e pool table is) c.summary.ensures)
