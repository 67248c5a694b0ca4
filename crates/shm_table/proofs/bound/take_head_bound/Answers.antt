use Rattle.shm_table.specs.Proved.RecvKey.Bound.{take_head_short}
use Rattle.shm_table.proofs.bound.take_head_bound.Goals as goal

pub returns-clause-within : goal.returns-clause-within
returns-clause-within c me s n b r0 r tr es a h = take_head_short me s n b r0 r tr es a h
