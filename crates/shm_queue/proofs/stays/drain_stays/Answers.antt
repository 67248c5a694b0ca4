use Rattle.shm_queue.proofs.Steady.{drain_steady}
use Rattle.shm_queue.proofs.stays.drain_stays.Goals as goal

pub returns : goal.returns
returns c m r0 r tr going fit = drain_steady m r0 r tr going fit
