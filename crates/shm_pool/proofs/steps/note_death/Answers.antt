use Rattle.std.proofs.Common.{◌≡◌, ℕ, ◌<◌, List, map, sym, ap, ◌∙◌, subst, arith}
use Rattle.atomic_table.specs.Table.{Me as Mine}
use Rattle.shm_graph.specs.{declared.run.Account.Account, Runs.{account_died, Stood}}
use Rattle.shm_pool.specs.Rules.{alone, head_account}
use Rattle.shm_pool.proofs.{Stepping.{noted_as, dies, stood_dies}, steps.note_death.Goals.After-load}
use Rattle.shm_pool.proofs.steps.note_death.Goals as goal

-- the account afterwards
alone_now : (c : After-load) → alone c.load.new.seat ≡ account_died (alone c.args.place.now)
alone_now c = ap head_account c.load.ensures.2.0 ∙ ap (λ (m : Mine (Unit {0}) (List Account)). head_account (map account_died m.0)) c.requires.table.2

pub load-requires : goal.load-requires
load-requires c = (
  c.requires.table.0,
  subst (λ (n : ℕ). 0 < n) (sym c.requires.table.1) (omega arith),
  noted_as account_died c.args.top.now.key _ _ (alone c.args.place.now) _ c.requires.table.2 (dies c.args.top.now.key _ (alone c.args.place.now) c.requires.acts.0 c.requires.acts.1),
)

pub returns-clause-stood : goal.returns-clause-stood
returns-clause-stood c = λ s. subst (λ (e : Account). Stood c.args.top.now.key e) (sym (alone_now (goal.at.returns-clause-stood c).After-load)) (stood_dies c.args.top.now.key (alone c.args.place.now) c.requires.acts.0 c.requires.acts.1 s)
