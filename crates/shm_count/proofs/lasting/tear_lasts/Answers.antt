use Rattle.shm_count.specs.Proved.Tear.Laws.{tear_retains}
use Rattle.shm_count.proofs.lasting.tear_lasts.Goals as goal

pub returns : goal.returns
returns c m r0 r tr a g = (tear_retains m r0 r tr a g, g.grows)
