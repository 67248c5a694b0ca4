use Rattle.shm_table.specs.Proved.PutRoot.Bound.{put_root_short, put_root_within}
use Rattle.shm_table.proofs.bound.put_root_bound.Goals as goal

pub returns-clause-own : goal.returns-clause-own
returns-clause-own c me key v r0 r tr es a h = put_root_short me key v r0 r tr es a h

pub returns-clause-command : goal.returns-clause-command
returns-clause-command c me key v r0 r tr es a h = put_root_within me key r tr es (put_root_short me key v r0 r tr es a h)
