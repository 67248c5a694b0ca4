use Rattle.shm_table.specs.Proved.Del.Bound.{del_short, del_within}
use Rattle.shm_table.proofs.bound.del_bound.Goals as goal

pub returns-clause-own : goal.returns-clause-own
returns-clause-own c me key r0 r tr es a h = del_short me key r0 r tr es a h.1

pub returns-clause-command : goal.returns-clause-command
returns-clause-command c me key r0 r tr es a h = del_within me key me.geometry.segments r tr es (del_short me key r0 r tr es a h.1)
