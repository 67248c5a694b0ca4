use Rattle.std.proofs.Common.{◌∙◌, ap, ◌∷◌}
use Rattle.shm_script.specs.Pieces.{pieces_left}
use Rattle.shm_script.proofs.ReadLoop.{alone_is}
use Rattle.shm_script.proofs.parsing.split_line.Goals as goal

pub returns-in-None-clause-lines : goal.returns-in-None-clause-lines
returns-in-None-clause-lines c = alone_is 10 c.args.text.now c.cut.result.0.now (c.cut.ensures.pieces ∙ ap (λ r. c.cut.result.0.now ∷ pieces_left 10 r) c.in-None.is)
