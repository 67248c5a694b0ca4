use Rattle.std.proofs.Common.{inl, inr}
use Rattle.shm_queue.proofs.bound.take_bound.Goals as goal

pub returns-clause-spent : goal.returns-clause-spent
returns-clause-spent c me s e r0 r tr es g = elim (g.1) [ inl n ↦ inl n.bound | inr t ↦ inr (t, t.bound) ]
