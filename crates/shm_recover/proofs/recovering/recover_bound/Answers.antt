use Rattle.std.proofs.Common.{arith}
use Rattle.shm_recover.proofs.recovering.recover_bound.Goals as goal

pub returns-clause-spent : goal.returns-clause-spent
returns-clause-spent c me r0 r tr es e g = (g, g.bound)

pub returns-clause-steps : goal.returns-clause-steps
returns-clause-steps c g t = omega arith

pub returns-clause-wide : goal.returns-clause-wide
returns-clause-wide c g t = omega arith
