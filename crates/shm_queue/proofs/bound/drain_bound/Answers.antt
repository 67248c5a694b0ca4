use Rattle.std.proofs.Common.{arith, inl, inr}
use Rattle.shm_queue.proofs.bound.drain_bound.Goals as goal

pub returns-clause-spent : goal.returns-clause-spent
returns-clause-spent c me r0 r tr es e g = (g, elim (g.refused) [ inl n ↦ inl n.1 | inr t ↦ inr t ])

pub returns-clause-steps : goal.returns-clause-steps
returns-clause-steps c n q t = omega arith

pub returns-clause-wide : goal.returns-clause-wide
returns-clause-wide c n q t = omega arith
