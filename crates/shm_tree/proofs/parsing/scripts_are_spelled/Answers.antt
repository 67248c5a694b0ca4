use Rattle.std.proofs.Common.{◌∙◌, ap}
use Rattle.shm_tree.specs.Scripts.{script_of}
use Rattle.shm_tree.proofs.{Again.script_again, Sound.script_sound}
use Rattle.shm_tree.proofs.parsing.scripts_are_spelled.Goals as goal

pub returns-clause-read : goal.returns-clause-read
returns-clause-read c = script_sound

pub returns-clause-again : goal.returns-clause-again
returns-clause-again c bytes s h = ap script_of h.1 ∙ script_again s h.0 (rw h.1 at h.2)
