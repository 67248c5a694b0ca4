use Rattle.shm_count.specs.Roots.{member}
use Rattle.shm_graph.specs.Runs.{account_at}
use Rattle.shm_team.specs.Rans.{entries_in}
use Rattle.shm_outcomes.proofs.Logging.{all_logged, logs_of}
use Rattle.shm_outcomes.proofs.runs.commands_are_logged.Goals as goal

pub returns-clause-lines : goal.returns-clause-lines
returns-clause-lines c = λ t p ls r. logs_of p t.scripts ls r.logs r.unspent

pub returns-clause-finished : goal.returns-clause-finished
returns-clause-finished c = λ t p ls r who below. all_logged (member p.start.geometry who) (account_at p.accounts who).told (entries_in ls who) (r.told who below)
