use Rattle.shm_graph.proofs.Runs.TurnsTaken.{begins_client, begins_recoverer}
use Rattle.shm_graph.proofs.history.agents_begin.Goals as goal

pub returns-clause-client : goal.returns-clause-client
returns-clause-client c = begins_client

pub returns-clause-recoverer : goal.returns-clause-recoverer
returns-clause-recoverer c = begins_recoverer

pub returns-clause-still : goal.returns-clause-still
returns-clause-still c g s w k x = x.is.1
