use Rattle.shm_count.proofs.lasting.step_lasts.Goals as goal

pub returns : goal.returns
returns c p m r0 r tr a g = (g.status, g.grows)
