use Rattle.shm_tree.proofs.Low.{low}
use Rattle.shm_tree.proofs.laws.trees_are_low.Goals as goal

pub returns : goal.returns
returns c = low
