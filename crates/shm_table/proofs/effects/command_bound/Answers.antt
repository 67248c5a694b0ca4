use Rattle.std.proofs.Common.{arith}
use Rattle.shm_table.specs.Proved.Command.Bound.{command_short}
use Rattle.shm_table.proofs.effects.command_bound.Goals as goal

pub returns-clause-within : goal.returns-clause-within
returns-clause-within c = command_short

pub returns-clause-steps : goal.returns-clause-steps
returns-clause-steps c g k t = omega arith

pub returns-clause-wide : goal.returns-clause-wide
returns-clause-wide c g k t = omega arith
