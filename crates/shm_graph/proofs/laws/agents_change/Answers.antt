use Rattle.shm_graph.proofs.Runs.Running.{turned-dies, turned-begins}
use Rattle.shm_graph.proofs.laws.agents_change.Goals as goal

pub returns-clause-dies : goal.returns-clause-dies
returns-clause-dies c = turned-dies

pub returns-clause-begins : goal.returns-clause-begins
returns-clause-begins c = turned-begins
