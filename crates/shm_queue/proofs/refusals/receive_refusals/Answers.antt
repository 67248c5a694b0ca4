use Rattle.shm_queue.specs.Receive.Control.{receiving}
use Rattle.shm_queue.proofs.{Causes.receive_reads, RefusedTakes.{refused_only, refused_peek, refused_rooted}}
use Rattle.shm_queue.proofs.refusals.receive_refusals.Goals as goal

pub returns-clause-peeked : goal.returns-clause-peeked
returns-clause-peeked c me s r0 r tr es f g none = refused_peek me s r0 r tr es f g none

pub returns-clause-only : goal.returns-clause-only
returns-clause-only c me s r0 r tr es f g some = refused_only me s r0 r tr es f g some

pub returns-clause-rooted : goal.returns-clause-rooted
returns-clause-rooted c me s e r0 r tr es g some = refused_rooted me s r0 r tr es e g some

pub returns-clause-read : goal.returns-clause-read
returns-clause-read c me s d n tr k = receive_reads (receiving me s) d n tr k
