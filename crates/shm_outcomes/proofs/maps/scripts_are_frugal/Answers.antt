use Rattle.shm_outcomes.proofs.Costing.{script_costs}
use Rattle.shm_outcomes.proofs.maps.scripts_are_frugal.Goals as goal

pub returns : goal.returns
returns c = λ s r script run. script_costs s r script run
