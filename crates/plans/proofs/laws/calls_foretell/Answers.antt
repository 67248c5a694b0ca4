use Rattle.plans.specs.Deciding.{calls_foretell}
use Rattle.plans.proofs.laws.calls_foretell.Goals as goal

pub returns : goal.returns
returns g c decided deciding says will h = calls_foretell g.P.Call.Machine.control g.P.Plan.plan decided deciding says (λ a. a) will h
