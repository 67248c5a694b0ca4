use Rattle.shm_graph.proofs.Runs.OwnTurns.{own_turns_are}
use Rattle.shm_graph.proofs.laws.accounts_keep_turns.Goals as goal

pub returns : goal.returns
returns c = own_turns_are
