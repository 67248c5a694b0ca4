use Rattle.shm_tree.proofs.Insertions.{inserts_well}
use Rattle.shm_tree.proofs.laws.insertions_are_changes.Goals as goal

pub returns : goal.returns
returns c = inserts_well
