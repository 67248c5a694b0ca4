use Rattle.std.proofs.Common.{subst}
use Rattle.shm_async.specs.Members.{IsMember}
use Rattle.shm_async.proofs.members.Member.polled.Goals as goal

pub returns-in-Finished : goal.returns-in-Finished
returns-in-Finished g c = λ t p k h. subst (IsMember t p k) c.in-Finished.is h

pub returns-in-Works : goal.returns-in-Works
returns-in-Works g c = λ t p k h. c.turned.ensures t p k (subst (IsMember t p k) c.in-Works.is h)
