use Rattle.std.proofs.Common.{◌<◌, subst, inl, inr}
use Rattle.shm_count.specs.Slots.{Untouched}
use Rattle.shm_queue.specs.Take.{slot_memo}
use Rattle.shm_queue.proofs.RefusedTakes.{not_stopped}
use Rattle.shm_queue.proofs.refusals.take_refusals.Goals as goal

pub returns-clause-empty : goal.returns-clause-empty
returns-clause-empty c me s n r0 r tr es g = (g.head, g.read, g.least, g.same, g.none)

pub returns-clause-kept : goal.returns-clause-kept
returns-clause-kept c me s e r0 r tr es g none =
    elim (g.1) [
      | inl n ↦ (g.0, n.spent, (n.block, subst (λ j. Untouched me.who (slot_memo me.who s j n.block r0) r) n.at n.untouched), (n.some.0, n.some.1, subst (λ j. j < n.some.0) n.at n.some.2))
      | inr t ↦ absurd (not_stopped me s r0 r tr es e t none)
    ]

pub returns-clause-taken : goal.returns-clause-taken
returns-clause-taken c me s e r0 r tr es g some = elim (g.1) [ inl n ↦ absurd (some n.none) | inr t ↦ (g.0, t.most, (t.place, t.block, t.some, t.known, t.received, (t.left, t.after, t.told, t.walks, t.stopped))) ]
