use Rattle.shm_count.proofs.Steady.Steps.{step_part}
use Rattle.shm_count.proofs.stays.step_partitions.Goals as goal

pub returns : goal.returns
returns c p m r0 r tr going fit = step_part p m r0 r tr going fit
