use Rattle.shm_ref.proofs.refusals.home_of_refusals.Goals as goal

pub returns : goal.returns
returns c me a r0 r tr es e g = (g.other, g.memo, g.none)
