use Rattle.shm_table.proofs.EarlierEvents.{copy_earlier, del_earlier, put_earlier, recv_earlier}
use Rattle.shm_table.proofs.effects.earlier_events.Goals as goal

pub returns-clause-put : goal.returns-clause-put
returns-clause-put c = put_earlier

pub returns-clause-copy : goal.returns-clause-copy
returns-clause-copy c = copy_earlier

pub returns-clause-recv : goal.returns-clause-recv
returns-clause-recv c = recv_earlier

pub returns-clause-del : goal.returns-clause-del
returns-clause-del c = del_earlier
