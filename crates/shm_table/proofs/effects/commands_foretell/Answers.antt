use Rattle.shm_table.proofs.EffectLaws.{copy_foretells, del_foretells, get_foretells, put_foretells, recv_foretells, send_key_foretells}
use Rattle.shm_table.proofs.effects.commands_foretell.Goals as goal

pub returns-clause-put : goal.returns-clause-put
returns-clause-put c = put_foretells

pub returns-clause-copy : goal.returns-clause-copy
returns-clause-copy c = copy_foretells

pub returns-clause-del : goal.returns-clause-del
returns-clause-del c = del_foretells

pub returns-clause-get : goal.returns-clause-get
returns-clause-get c = get_foretells

pub returns-clause-send : goal.returns-clause-send
returns-clause-send c = send_key_foretells

pub returns-clause-recv : goal.returns-clause-recv
returns-clause-recv c = recv_foretells
