use Rattle.std.proofs.{Common.{ap, ◌∙◌}, lemmas.Bool.cond-false}
use Rattle.shm_graph.specs.declared.memo.Memo.{Memo}
use Rattle.shm_count.specs.Proved.Step.{Parts.lasting_not, Refusing.step_reads}
use Rattle.shm_count.proofs.lasting.step_refusals.Goals as goal

pub returns-clause-spent : goal.returns-clause-spent
returns-clause-spent c p m r0 r tr e g =
    let x = g.gives in
    (x.1, x.2, ap (λ (y : Memo). y.own) x.0, ap (λ (y : Memo). y.known) x.0, ap (λ (y : Memo). y.dying) x.0)

pub returns-clause-full : goal.returns-clause-full
returns-clause-full c p m r0 r tr b n g = let x = g.gives in (x.0, x.1, x.2, step_reads m.me m.slot m.aim tr b n g.trail)

pub returns-clause-stays : goal.returns-clause-stays
returns-clause-stays c p m r0 r tr b n g =
    let rows = g.gives.3.1 in
    (ap (λ (y : Memo). y.known) rows.rest, ap (λ (y : Memo). y.dying) rows.rest, λ q l. let y = lasting_not m.me.who q l in rows.own q y.1 ∙ cond-false _ _ _ y.2)
