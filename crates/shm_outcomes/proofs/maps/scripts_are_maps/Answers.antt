use Rattle.shm_outcomes.proofs.Mapping.{tells_maps}
use Rattle.shm_outcomes.proofs.maps.scripts_are_maps.Goals as goal

pub returns : goal.returns
returns c = λ s r script run. tells_maps c.insertions_are_changes.ensures c.removals_are_changes.ensures s r script run
