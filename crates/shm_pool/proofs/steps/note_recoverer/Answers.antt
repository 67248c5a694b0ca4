use Rattle.std.proofs.Common.{◌≡◌, ℕ, ◌<◌, List, map, sym, ap, ◌∙◌, subst, arith}
use Rattle.atomic_table.specs.Table.{Me as Mine}
use Rattle.shm_graph.specs.declared.{memo.Kind.TheVariants.Recoverer, run.Account.Account}
use Rattle.shm_graph.specs.Runs.{account_entered, Stood}
use Rattle.shm_pool.specs.Rules.{alone, head_account}
use Rattle.shm_pool.proofs.{Stepping.{noted_as, begins, stood_begins}, steps.note_recoverer.Goals.After-load}
use Rattle.shm_pool.proofs.steps.note_recoverer.Goals as goal

-- the account afterwards
alone_now : (c : After-load) → alone c.load.new.seat ≡ account_entered Recoverer (alone c.args.place.now)
alone_now c = ap head_account c.load.ensures.2.0 ∙ ap (λ (m : Mine (Unit {0}) (List Account)). head_account (map (account_entered Recoverer) m.0)) c.requires.table.2

pub load-requires : goal.load-requires
load-requires c = (
  c.requires.table.0,
  subst (λ (n : ℕ). 0 < n) (sym c.requires.table.1) (omega arith),
  noted_as (account_entered Recoverer) c.args.top.now.key _ _ (alone c.args.place.now) _ c.requires.table.2 (begins Recoverer c.args.top.now.key _ (alone c.args.place.now) c.requires.rests.0 (c.requires.rests.1, c.requires.rests.2)),
)

pub returns-clause-stood : goal.returns-clause-stood
returns-clause-stood c = λ s. subst (λ (e : Account). Stood c.args.top.now.key e) (sym (alone_now (goal.at.returns-clause-stood c).After-load)) (stood_begins Recoverer c.args.top.now.key (alone c.args.place.now) c.requires.rests.0 (c.requires.rests.1, c.requires.rests.2) s)
