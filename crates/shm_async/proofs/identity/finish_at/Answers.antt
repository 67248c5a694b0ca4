use Rattle.std.proofs.Common.{◌≢◌, sym, subst}
use Rattle.shm_agents.specs.declared.agents.Standing.TheVariants.{AtWork}
use Rattle.shm_async.specs.{Finished.HasFinished, Polled.{AtPost, StandAt}}
use Rattle.shm_async.proofs.identity.finish_at.Goals as goal

pub hand_back-requires-clause-posted : goal.hand_back-requires-clause-posted
hand_back-requires-clause-posted g c = (subst (StandAt c.requires.stand.0) (sym c.site.view_is) c.requires.stand.1).posted

pub hand_back-requires-clause-stands : goal.hand_back-requires-clause-stands
hand_back-requires-clause-stands g c = (c.requires.stand.0, (subst (StandAt c.requires.stand.0) (sym c.site.view_is) c.requires.stand.1).stands)

pub hand_back-requires-clause-rests : goal.hand_back-requires-clause-rests
hand_back-requires-clause-rests g c = subst (λ (z : AtPost). z.agents.standing ≢ AtWork) (sym c.site.view_is) c.requires.rests

pub returns-clause-finished : goal.returns-clause-finished
returns-clause-finished g c s stand =
    subst (λ (z : AtPost). HasFinished z.post.of s c.hand_back.result) c.site.view_is (c.hand_back.ensures.finished s (subst (StandAt s) (sym c.site.view_is) stand).stands)
