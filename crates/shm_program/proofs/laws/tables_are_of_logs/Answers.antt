use Rattle.shm_program.proofs.LoggedClients.{no_script_empty}
use Rattle.shm_program.proofs.laws.tables_are_of_logs.Goals as goal

pub returns-clause-folded : goal.returns-clause-folded
returns-clause-folded c t finished r d key less = r.replay.fold d key less

pub returns-clause-empty : goal.returns-clause-empty
returns-clause-empty c t finished r d key less none = no_script_empty r.run.closed t.scripts r.run.logs.items d key _ r.replay.logs none (r.replay.fold d key less)
