use Rattle.shm_outcomes.proofs.Determined.{runs_same}
use Rattle.shm_outcomes.proofs.runs.runs_are_determined.Goals as goal
use Rattle.shm_replay.specs.Replays.{start_of}

pub returns-clause-runs : goal.returns-clause-runs
returns-clause-runs c = λ t p q ls ms r run turns. runs_same (start_of t) t.scripts p q ls ms r.start run.start r.closed.run run.closed.run r.logs run.logs turns

pub returns-clause-replays : goal.returns-clause-replays
returns-clause-replays c = λ t p q ls ms r run turns. runs_same (start_of t) t.scripts p q ls ms r.start run.start r.closed.run run.closed.run r.logs run.logs turns
