use Rattle.shm_program.proofs.SameTexts.{told_same}
use Rattle.shm_program.proofs.laws.replays_write_one_text.Goals as goal

pub returns : goal.returns
returns c = told_same
