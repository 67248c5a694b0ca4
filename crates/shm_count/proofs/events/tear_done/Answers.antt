use Rattle.shm_count.proofs.TearWalks.{done_last, done_tears}
use Rattle.shm_count.proofs.events.tear_done.Goals as goal

pub returns-clause-last : goal.returns-clause-last
returns-clause-last c me first r0 r es tr h = done_last me.who first es h.walks

pub returns-clause-each : goal.returns-clause-each
returns-clause-each c me first r0 r es tr h = done_tears me.who first es h.walks
