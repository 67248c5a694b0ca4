use Rattle.std.proofs.Common.{refl}
use Rattle.shm_program.proofs.telling.tell_tree.Goals as goal

pub returns : goal.returns
returns c = (refl, (c.in_ok-run.run', refl, c.in_ok-run.ensures, c.in_ok-text.ensures))
