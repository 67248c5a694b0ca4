use Rattle.shm_ref.proofs.refusals.share_refusals.Goals as goal

pub returns-clause-spent : goal.returns-clause-spent
returns-clause-spent c me b e r0 r tr es g = (g.era, g.spent, g.same, g.events)

pub returns-clause-roots : goal.returns-clause-roots
returns-clause-roots c me b r0 r tr es g = (g.room, g.all, g.same, g.events)

pub returns-clause-full : goal.returns-clause-full
returns-clause-full c me b d n r0 r tr es g = (g.room, g.empty, g.block, g.full, g.read, g.untouched, g.events)
