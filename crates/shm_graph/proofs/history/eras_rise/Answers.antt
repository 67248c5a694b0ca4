use Rattle.shm_graph.proofs.{Runs.EraRises.{memo_bounds, own_bounds, run_rises}, States.FirstHeld.first_held}
use Rattle.shm_graph.proofs.history.eras_rise.Goals as goal

pub returns-clause-rows : goal.returns-clause-rows
returns-clause-rows c g a ms b h run = (run_rises g a ms b h run).rows

pub returns-clause-words : goal.returns-clause-words
returns-clause-words c s ms b f e run = own_bounds s ms b (first_held s f e) run

pub returns-clause-memo : goal.returns-clause-memo
returns-clause-memo c s ms b f e run = memo_bounds s ms b (first_held s f e) run
