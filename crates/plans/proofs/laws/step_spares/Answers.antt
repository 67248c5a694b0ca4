use Rattle.plans.specs.MadeStays.{made_on}
use Rattle.plans.proofs.laws.step_spares.Goals as goal

pub returns : goal.returns
returns c = made_on
