use Rattle.std.proofs.{Common.sym, lemmas.Bool.ne_eqb}
use Rattle.std.specs.Prelude.{◌==◌}
use Rattle.shm_ref.specs.Proved.Leaving.{left_root}
use Rattle.shm_ref.proofs.RefusedDrops.{spent_emptied, spent_kept, spent_some}
use Rattle.shm_ref.proofs.refusals.drop_root_refusals.Goals as goal

pub returns-clause-spent : goal.returns-clause-spent
returns-clause-spent c me k r0 r tr es e g = (g.1.stopped.spent, g.1.most, spent_some me.who k r0 r es e.era g.0 g.1.at)

pub returns-clause-others : goal.returns-clause-others
returns-clause-others c me k j r0 r tr es e g n = left_root me.who (λ i. k == i) r0 r j g.1.left (ne_eqb k j (λ y. n (sym y)))

pub returns-clause-kept : goal.returns-clause-kept
returns-clause-kept c me k r0 r tr es e g n = spent_kept me.who k r0 r es e.era g.0 g.1.at n

pub returns-clause-emptied : goal.returns-clause-emptied
returns-clause-emptied c me k r0 r tr es e g z = let s = spent_emptied me.who k r0 r es e.era g.0 g.1.at z in (g.0, s.0, s.1, s.2, g.1.stopped)
