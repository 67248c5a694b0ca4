use Rattle.plans.specs.Proved.Grown.{grows_on}
use Rattle.plans.proofs.laws.step_grows.Goals as goal

pub returns : goal.returns
returns c = grows_on
