use Rattle.shm_session.proofs.Working.{Working}
use Rattle.shm_session.proofs.session.Sits.run.Given as goal

abbrev pub invariant-steps : goal.invariant-steps
invariant-steps g l = Working g.Self.Sits.operations.control (g.T.Site.made l.site) (g.T.Site.seen l.site) l.initial.life.left l.initial.work l.initial.words l.life.left l.work l.words

abbrev pub decreases-steps : goal.decreases-steps
decreases-steps g l = l.life.left
