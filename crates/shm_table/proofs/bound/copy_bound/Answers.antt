use Rattle.shm_table.specs.Proved.CopyKey.Bound.{copy_short, copy_within}
use Rattle.shm_table.proofs.bound.copy_bound.Goals as goal

pub returns-clause-own : goal.returns-clause-own
returns-clause-own c me key a other r0 r tr es b g = copy_short me key a other r0 r tr es b g

pub returns-clause-command : goal.returns-clause-command
returns-clause-command c me key a other r0 r tr es b g = copy_within me key a other r tr es (copy_short me key a other r0 r tr es b g)
