use Rattle.shm_graph.proofs.Machines.ManySteps.{Running}
use Rattle.shm_alloc.specs.Alloc.Control.{alloc_control}
use Rattle.shm_alloc.proofs.alloc.Alloc.run_any.Given as goal

abbrev pub invariant-steps : goal.invariant-steps
invariant-steps g l = Running alloc_control (g.S.Site.may l.site) (g.S.Site.made l.site) (g.S.Site.seen l.site) l.initial.life.left l.initial.self l.initial.words l.life.left l.self l.words

abbrev pub decreases-steps : goal.decreases-steps
decreases-steps g l = l.life.left
