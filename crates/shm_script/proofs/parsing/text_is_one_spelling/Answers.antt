use Rattle.shm_script.proofs.Complete.{one_spelling}
use Rattle.shm_script.proofs.parsing.text_is_one_spelling.Goals as goal

pub returns : goal.returns
returns c = one_spelling
