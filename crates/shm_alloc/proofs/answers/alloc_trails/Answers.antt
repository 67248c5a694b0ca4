use Rattle.shm_alloc.proofs.AllocCounting.{alloc_counts}
use Rattle.shm_alloc.proofs.answers.alloc_trails.Goals as goal

pub returns : goal.returns
returns c m r0 r trail taken used who gives = alloc_counts m.me m.request who trail taken used gives.trail
