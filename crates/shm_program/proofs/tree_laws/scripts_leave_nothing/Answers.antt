use Rattle.shm_program.proofs.EmptyPools.{empty_line, ends_with}
use Rattle.shm_program.proofs.tree_laws.scripts_leave_nothing.Goals as goal

pub returns : goal.returns
returns c = λ s finished text (r, kept, run, told). ends_with text _ _ _ _ told (empty_line r.closed run.closed.closed run.closed.empty)
