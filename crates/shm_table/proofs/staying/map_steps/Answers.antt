use Rattle.shm_table.specs.Proved.Staying.Steps.{map_home, map_word}
use Rattle.shm_table.proofs.staying.map_steps.Goals as goal

pub returns-clause-word : goal.returns-clause-word
returns-clause-word c me m r d i old new held who idle table word other is s k = map_word me m r d i old new held who idle table word other is s k

pub returns-clause-home : goal.returns-clause-home
returns-clause-home c me m r new held who idle table empty some is s k = map_home me m r new held who idle table empty some is s k
