use Rattle.shm_table.specs.Proved.SendKey.Bound.{send_key_short, send_key_within}
use Rattle.shm_table.proofs.bound.send_key_bound.Goals as goal

pub returns-clause-own : goal.returns-clause-own
returns-clause-own c me i key r0 r tr es a h = send_key_short me i key r0 r tr es a h

pub returns-clause-command : goal.returns-clause-command
returns-clause-command c me i key r0 r tr es a h = send_key_within me key me.geometry.segments tr (send_key_short me i key r0 r tr es a h)
