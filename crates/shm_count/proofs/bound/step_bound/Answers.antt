use Rattle.shm_count.specs.Proved.Step.Bound.{step_bound}
use Rattle.shm_count.proofs.bound.step_bound.Goals as goal

pub returns : goal.returns
returns c p m r0 r trail a gives = step_bound m.me m.slot m.aim trail a gives.trail
