use Rattle.std.proofs.Common.{refl}
use Rattle.shm_alloc.proofs.AllocCounting.{alloc_counts}
use Rattle.shm_table.specs.{CopyKey.Control.copying, Del.Control.deleting, Put.Control.putting}
use Rattle.shm_table.specs.{RecvKey.Control.receiving_key, SendKey.Control.sending_key}
use Rattle.shm_table.proofs.CauseTrails.Commands.{copy_shows, del_shows, put_shows, recv_shows, send_key_shows}
use Rattle.shm_table.proofs.refusals.refusal_trails.Goals as goal

pub returns-clause-put : goal.returns-clause-put
returns-clause-put c me key n tr a h = put_shows me (putting me key n) tr a (refl, tt) h

pub returns-clause-copy : goal.returns-clause-copy
returns-clause-copy c me key b other tr a h = copy_shows me (copying me key b other) tr a (refl, tt) h

pub returns-clause-del : goal.returns-clause-del
returns-clause-del c me key tr a h = del_shows me (deleting me key) tr a (refl, tt) h

pub returns-clause-send : goal.returns-clause-send
returns-clause-send c me to key tr a h = send_key_shows me (sending_key me to key) tr a (refl, tt) h

pub returns-clause-recv : goal.returns-clause-recv
returns-clause-recv c me from key tr a h = recv_shows me (receiving_key me from key) tr a (refl, tt) h

pub returns-clause-spent : goal.returns-clause-spent
returns-clause-spent c me e tr h = h

pub returns-clause-roots : goal.returns-clause-roots
returns-clause-roots c me tr h = h

pub returns-clause-count : goal.returns-clause-count
returns-clause-count c me b n tr h = h

pub returns-clause-full : goal.returns-clause-full
returns-clause-full c me s b tr who (before, middle, after, split, found) =
    let counts = alloc_counts me found.0 who middle s b found.2 in
    (before, middle, after, split, found, counts.0, counts.1)
