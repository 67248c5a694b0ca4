use Rattle.shm_table.specs.Proved.RecvKey.Bound.{recv_short, recv_within}
use Rattle.shm_table.proofs.bound.recv_bound.Goals as goal

pub returns-clause-own : goal.returns-clause-own
returns-clause-own c me s key r0 r tr es b h = recv_short me s key r0 r tr es b h

pub returns-clause-command : goal.returns-clause-command
returns-clause-command c me s key r0 r tr es b h = recv_within me key r tr es (recv_short me s key r0 r tr es b h)
