use Rattle.plans.specs.Proved.CallsKeep.{calls_begin}
use Rattle.plans.proofs.laws.calls_begin.Goals as goal

pub returns : goal.returns
returns g c = calls_begin g.P.Call.Machine.control g.P.Plan.plan g.met.P.Plan.laws
