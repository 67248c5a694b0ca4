use Rattle.std.proofs.Common.{refl}
use Rattle.t_calls.proofs.Plans.{plan_leaves}
use Rattle.t_calls.proofs.running.run_plan.Goals as goal

pub run-requires-clause-may : goal.run-requires-clause-may
run-requires-clause-may g c = (refl, c.requires.may)

pub returns : goal.returns
returns g c = record { ran = c.run.ensures.ran; work = c.run.ensures.at_work; left = plan_leaves g.P.Call.Machine.control g.P.Plan.plan c.args.plan c.args.who _ _ c.run.result c.run.ensures.leaves }
