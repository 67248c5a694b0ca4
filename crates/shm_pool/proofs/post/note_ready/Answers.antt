use Rattle.std.proofs.Common.{◌<◌, Bool, sym, ap, ◌∙◌, subst}
use Rattle.shm_graph.specs.{declared.{memo.Kind.TheVariants.Recoverer, run.Account.Account}, Agents.{acts, last_agent}}
use Rattle.shm_graph.specs.Runs.{account_entered, fell_by}
use Rattle.shm_graph.proofs.Memos.MemoSteps.{acts-died, acts-entered, fell-died}
use Rattle.shm_plain.specs.Working.{ready_account}
use Rattle.shm_pool.specs.{Posts.account_seen, Rules.alone}
use Rattle.shm_pool.proofs.Posting.{dead_ready}
use Rattle.shm_pool.proofs.post.note_ready.Goals as goal

pub note_recoverer-requires-clause-rests : goal.note_recoverer-requires-clause-rests
note_recoverer-requires-clause-rests c =
    let e : Account = alone c.args.place.now in
    let d = c.note_death.ensures.account in (
      subst (λ (z : Account). z.who < c.args.top.now.key.geometry.clients) (sym d) c.requires.who,
      ap (λ (z : Account). acts z.memo) d ∙ acts-died e.memo,
      ap (λ (z : Account). fell_by (last_agent z.memo.agents)) d ∙ fell-died e.memo (c.requires.knows.acting c.if-fallen.true),
    )

pub returns-then-fallen-clause-account : goal.returns-then-fallen-clause-account
returns-then-fallen-clause-account c =
    let e : Account = alone c.args.place.now in
    c.note_recoverer.ensures.account
    ∙ (ap (account_entered Recoverer) c.note_death.ensures.account
    ∙ (sym (dead_ready e (c.requires.knows.acting c.if-fallen.true)) ∙ ap (λ (b : Bool). ready_account (account_seen b e)) (sym c.if-fallen.true)))

pub returns-then-fallen-clause-acts : goal.returns-then-fallen-clause-acts
returns-then-fallen-clause-acts c = ap (λ (z : Account). acts z.memo) c.note_recoverer.ensures.account ∙ acts-entered Recoverer (alone c.note_death.new.place).memo
