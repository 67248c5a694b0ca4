use Rattle.shm_program.specs.Replays.{team_pool}
use Rattle.shm_program.proofs.LoggedClients.{no_script_empty}
use Rattle.shm_program.proofs.team_laws.team_tables_are_of_logs.Goals as goal

pub returns-clause-folded : goal.returns-clause-folded
returns-clause-folded c how t finished r d key less = r.team.fold d key less

pub returns-clause-empty : goal.returns-clause-empty
returns-clause-empty c how t finished r d key less none = no_script_empty (team_pool r.run r.turns) t.scripts r.run.logs.items d key _ r.team.logs none (r.team.fold d key less)
