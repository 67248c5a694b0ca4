use Rattle.shm_ref.specs.Proved.OnlyRead.{still_asks, still_drops, still_reached}
use Rattle.shm_ref.proofs.reading.reading_goes_on.Goals as goal

pub returns-clause-asks : goal.returns-clause-asks
returns-clause-asks c me r0 r s h = still_asks me r0 r s h

pub returns-clause-reach : goal.returns-clause-reach
returns-clause-reach c me b r0 r s h = record { may = still_drops me r0 r s h.may; reach = still_reached me.who b r0 r s h.reach; room = h.room }
