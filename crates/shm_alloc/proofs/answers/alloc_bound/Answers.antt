use Rattle.shm_alloc.proofs.AllocBound.{alloc_bound}
use Rattle.shm_alloc.proofs.answers.alloc_bound.Goals as goal

pub returns : goal.returns
returns c m r0 r trail a fits gives = alloc_bound m.me m.request fits trail a gives.trail
