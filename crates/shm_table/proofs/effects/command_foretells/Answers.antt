use Rattle.shm_table.proofs.EffectLaws.{command_foretells}
use Rattle.shm_table.proofs.effects.command_foretells.Goals as goal

pub returns : goal.returns
returns c = command_foretells
