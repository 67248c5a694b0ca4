use Rattle.shm_graph.proofs.Machines.ManySteps.{Running}
use Rattle.shm_count.specs.Step.Control.{StepInRange, step_control}
use Rattle.shm_count.proofs.point.StepState.run_on.Given as goal

abbrev pub invariant-steps : goal.invariant-steps
invariant-steps g l = StepInRange l.self × Running step_control (g.S.Site.may l.site) (g.S.Site.made l.site) (g.S.Site.seen l.site) l.initial.life.left l.initial.self l.initial.words l.life.left l.self l.words

abbrev pub decreases-steps : goal.decreases-steps
decreases-steps g l = l.life.left
