use Rattle.shm_table.proofs.DecidingEvents.{copy_event, del_event, put_event, recv_event}
use Rattle.shm_table.proofs.effects.deciding_events.Goals as goal

pub returns-clause-put : goal.returns-clause-put
returns-clause-put c = put_event

pub returns-clause-copy : goal.returns-clause-copy
returns-clause-copy c = copy_event

pub returns-clause-recv : goal.returns-clause-recv
returns-clause-recv c = recv_event

pub returns-clause-del : goal.returns-clause-del
returns-clause-del c = del_event
