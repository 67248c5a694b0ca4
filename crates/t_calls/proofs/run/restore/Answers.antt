use Rattle.std.proofs.Common.{sym, subst}
use Rattle.shm_words.specs.Layout.{GeometryFits}
use Rattle.shm_graph.specs.declared.run.Start.{Start}
use Rattle.t_calls.proofs.run.restore.Goals as goal

pub returns : goal.returns
returns c = record { geometry = subst (λ (s : Start). GeometryFits s.geometry) (sym c.recover-answer.ensures.ran.start) c.requires.stand.geometry; first = tt; second = tt }
