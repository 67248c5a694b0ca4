use Rattle.shm_graph.proofs.Machines.ManySteps.{Running}
use Rattle.plans.specs.CallsControl.{calls_control}
use Rattle.plans.proofs.calls.CallsMachine.run.Given as goal

abbrev pub invariant-calls : goal.invariant-calls
invariant-calls g l = Running (calls_control g.P.Call.Machine.control g.P.Plan.plan.steered) (g.S.Site.may l.site) (g.S.Site.made l.site) (g.S.Site.seen l.site) l.initial.life.left l.initial.self l.initial.words l.life.left l.self l.words

abbrev pub decreases-calls : goal.decreases-calls
decreases-calls g l = l.life.left
