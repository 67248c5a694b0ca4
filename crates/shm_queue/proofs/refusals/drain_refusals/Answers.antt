use Rattle.std.proofs.Common.{[], ◌∷◌, ◌++◌, inl, inr}
use Rattle.shm_queue.proofs.RefusedTakes.{drain_most, none_more, one_more}
use Rattle.shm_queue.proofs.refusals.drain_refusals.Goals as goal

pub returns-clause-empty : goal.returns-clause-empty
returns-clause-empty c me n r0 r tr es g = g.empty

pub returns-clause-spent : goal.returns-clause-spent
returns-clause-spent c me r0 r tr es e g = (g.spent, drain_most me r0 r tr es e.era g)

pub returns-clause-items : goal.returns-clause-items
returns-clause-items c me r0 r tr es e g =
    elim (g.refused) [
      | inl n ↦ (let k = none_more me r0 r tr es e.era g n.0 in (g.items, k.0, k.1, k.2))
      | inr t ↦ (let k = one_more me r0 r tr es e.era g t.0 in (g.items ++ record { from = g.from; place = t.0.place; block = t.0.block } ∷ [], k.0, k.1, k.2))
    ]
