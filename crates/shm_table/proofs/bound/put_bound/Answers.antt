use Rattle.shm_table.specs.Proved.Put.Bound.{put_short, put_within}
use Rattle.shm_table.proofs.bound.put_bound.Goals as goal

pub returns-clause-own : goal.returns-clause-own
returns-clause-own c me key n r0 r tr es a h = put_short me key n r0 r tr es a h

pub returns-clause-command : goal.returns-clause-command
returns-clause-command c me key n r0 r tr es a h = put_within me key r tr es (put_short me key n r0 r tr es a h)
