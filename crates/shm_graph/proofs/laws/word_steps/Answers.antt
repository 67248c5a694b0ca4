use Rattle.shm_graph.proofs.Runs.Lists.{see-words_set}
use Rattle.shm_graph.proofs.laws.word_steps.Goals as goal

pub returns : goal.returns
returns c = see-words_set
