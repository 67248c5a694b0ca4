use Rattle.std.proofs.Common.{inl, inr}
use Rattle.shm_queue.proofs.bound.receive_bound.Goals as goal

pub returns-clause-empty : goal.returns-clause-empty
returns-clause-empty c me s n r0 r tr es g = g.bound

pub returns-clause-full : goal.returns-clause-full
returns-clause-full c me s r0 r tr es g = g.2.bound

pub returns-clause-counted : goal.returns-clause-counted
returns-clause-counted c me s b n r0 r tr es g = g.1.bound

pub returns-clause-spent : goal.returns-clause-spent
returns-clause-spent c me s e r0 r tr es g = elim (g) [
  | inl n ↦ inl n.2.bound
  | inr d ↦ inr (d, elim (d.refused) [ inl n ↦ inl n.1 | inr t ↦ inr t ])
]
