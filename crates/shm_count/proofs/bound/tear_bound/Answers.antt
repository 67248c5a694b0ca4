use Rattle.shm_count.proofs.bound.tear_bound.Goals as goal

pub returns-clause-spent : goal.returns-clause-spent
returns-clause-spent c m r0 r tr e g = (g.leaves.0, g.leaves.1, g.leaves.1.bound)
