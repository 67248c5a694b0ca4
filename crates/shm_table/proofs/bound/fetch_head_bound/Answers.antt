use Rattle.shm_table.specs.Proved.RecvKey.Bound.{fetch_head_short}
use Rattle.shm_table.proofs.bound.fetch_head_bound.Goals as goal

pub returns-clause-within : goal.returns-clause-within
returns-clause-within c me s r0 r tr es b h = fetch_head_short me s r0 r tr es b h
