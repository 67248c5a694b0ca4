use Rattle.shm_reported.proofs.Told.{limited_told, replay_told, run_told}
use Rattle.shm_reported.proofs.calls.reports_are_of_runs.Goals as goal

pub returns-clause-replay : goal.returns-clause-replay
returns-clause-replay c = replay_told

pub returns-clause-run : goal.returns-clause-run
returns-clause-run c = run_told

pub returns-clause-limited : goal.returns-clause-limited
returns-clause-limited c = limited_told
