use Rattle.shm_script.proofs.OneLine.{one_line}
use Rattle.shm_script.proofs.printing.line_is_one_spelling.Goals as goal

pub returns : goal.returns
returns c = one_line
