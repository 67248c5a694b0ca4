use Rattle.plans.specs.Proved.CallsKeep.{calls_tells}
use Rattle.plans.proofs.laws.calls_events.Goals as goal

pub returns : goal.returns
returns g c = calls_tells g.P.Call.Machine.control g.P.Plan.plan g.met.P.Plan.laws
