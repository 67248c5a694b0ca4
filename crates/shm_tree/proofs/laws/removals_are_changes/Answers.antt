use Rattle.shm_tree.proofs.Removals.{removes_well}
use Rattle.shm_tree.proofs.laws.removals_are_changes.Goals as goal

pub returns : goal.returns
returns c = removes_well
