use Rattle.shm_graph.proofs.Runs.CallEventsOf.{events_told, call_told}
use Rattle.shm_graph.proofs.laws.call_events.Goals as goal

pub returns-clause-told : goal.returns-clause-told
returns-clause-told c = events_told

pub returns-clause-pairs : goal.returns-clause-pairs
returns-clause-pairs c = call_told
