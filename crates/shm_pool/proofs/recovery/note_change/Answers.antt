use Rattle.std.proofs.Common.{ℕ, ◌<◌, sym, ap, ◌∙◌, subst}
use Rattle.shm_graph.specs.{declared.{memo.Kind.TheVariants.Recoverer, run.Account.Account}, Agents.{acts, last_agent}}
use Rattle.shm_graph.specs.Runs.{account_died, account_entered, fell_by}
use Rattle.shm_graph.proofs.Memos.MemoSteps.{acts-died, fell-died, acts-entered}
use Rattle.shm_pool.specs.Rules.{alone}
use Rattle.shm_pool.proofs.Changing.{begun_who}
use Rattle.shm_pool.proofs.recovery.note_change.Goals as goal

pub note_death-requires-clause-acts : goal.note_death-requires-clause-acts
note_death-requires-clause-acts c = (
  subst (λ (n : ℕ). n < c.args.top.now.key.geometry.clients) (sym (ap (λ (e : Account). e.who) c.note_begun.ensures.account ∙ begun_who (alone c.args.place.now))) c.requires.who,
  c.note_begun.ensures.acts,
)

pub note_recoverer-requires-clause-rests : goal.note_recoverer-requires-clause-rests
note_recoverer-requires-clause-rests c = let e = alone c.note_begun.new.place in let d = c.note_death.ensures.account in (
  subst (λ (n : ℕ). n < c.args.top.now.key.geometry.clients) (sym (ap (λ (e : Account). e.who) d ∙ (ap (λ (e : Account). e.who) c.note_begun.ensures.account ∙ begun_who (alone c.args.place.now)))) c.requires.who,
  ap (λ (e : Account). acts e.memo) d ∙ acts-died e.memo,
  ap (λ (e : Account). fell_by (last_agent e.memo.agents)) d ∙ fell-died e.memo c.note_begun.ensures.acts,
)

pub returns-clause-account : goal.returns-clause-account
returns-clause-account c = c.note_recoverer.ensures.account ∙ (ap (account_entered Recoverer) c.note_death.ensures.account ∙ ap (λ (e : Account). account_entered Recoverer (account_died e)) c.note_begun.ensures.account)

pub returns-clause-acts : goal.returns-clause-acts
returns-clause-acts c = ap (λ (e : Account). acts e.memo) c.note_recoverer.ensures.account ∙ acts-entered Recoverer (alone c.note_death.new.place).memo

pub returns-clause-stood : goal.returns-clause-stood
returns-clause-stood c = λ s. c.note_recoverer.ensures.stood (c.note_death.ensures.stood (c.note_begun.ensures.stood s))

pub returns-clause-who : goal.returns-clause-who
returns-clause-who c = ap (λ (e : Account). e.who) c.note_recoverer.ensures.account ∙ (ap (λ (e : Account). e.who) c.note_death.ensures.account ∙ (ap (λ (e : Account). e.who) c.note_begun.ensures.account ∙ begun_who (alone c.args.place.now)))
