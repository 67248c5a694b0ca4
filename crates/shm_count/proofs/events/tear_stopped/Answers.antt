use Rattle.shm_count.proofs.TearWalks.{walk_stopped}
use Rattle.shm_count.proofs.events.tear_stopped.Goals as goal

pub returns-clause-walk : goal.returns-clause-walk
returns-clause-walk c me first r0 r es tr e h = (h.0, h.1.some, h.1.left, walk_stopped me.who first es h.0 h.1.walks)

pub returns-clause-spent : goal.returns-clause-spent
returns-clause-spent c me first r0 r es tr e h = (h.1.spent, h.1.last)
