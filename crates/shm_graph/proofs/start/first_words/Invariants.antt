use Rattle.std.proofs.Common.{◌≡◌}
use Rattle.shm_graph.proofs.Spots.FirstStoring.{words_below}
use Rattle.shm_graph.proofs.start.first_words.Given as goal

abbrev pub invariant-loop-client : goal.invariant-loop-client
invariant-loop-client l = l.words.items ≡ words_below l.start.geometry l.start.first_era l.client
