use Rattle.shm_queue.specs.Send.Control.{sending}
use Rattle.shm_queue.proofs.Causes.{head_reads, send_reads}
use Rattle.shm_queue.proofs.refusals.send_refusals.Goals as goal

pub returns-clause-queue : goal.returns-clause-queue
returns-clause-queue c me i b h n r0 r tr es g = (g.tail, g.full, g.same, g.none)

pub returns-clause-head : goal.returns-clause-head
returns-clause-head c me i b h n tr k = head_reads me i h n b tr k

pub returns-clause-spent : goal.returns-clause-spent
returns-clause-spent c me i b e r0 r tr es g = (g.1, g.2, g.0.untouched, g.0.none)

pub returns-clause-full : goal.returns-clause-full
returns-clause-full c me i b d n r0 r tr es g = (g.2, g.1, g.0.untouched, g.0.none)

pub returns-clause-read : goal.returns-clause-read
returns-clause-read c me i b d n tr k = send_reads (sending me i b) d n tr k
