use Rattle.shm_table.proofs.EffectLaws.{enter_decides, put_root_decides, replace_decides, unlink_decides}
use Rattle.shm_table.proofs.effects.parts_decide.Goals as goal

pub returns-clause-replace : goal.returns-clause-replace
returns-clause-replace c = replace_decides

pub returns-clause-enter : goal.returns-clause-enter
returns-clause-enter c = enter_decides

pub returns-clause-unlink : goal.returns-clause-unlink
returns-clause-unlink c = unlink_decides

pub returns-clause-put_root : goal.returns-clause-put_root
returns-clause-put_root c = put_root_decides
