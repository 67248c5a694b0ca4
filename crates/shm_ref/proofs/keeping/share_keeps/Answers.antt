use Rattle.shm_ref.proofs.RootKeeps.{share_dying, share_left, share_named, share_number, share_reached}
use Rattle.shm_ref.proofs.keeping.share_keeps.Goals as goal

pub returns-clause-number : goal.returns-clause-number
returns-clause-number c me b r0 r tr es a h = share_number me b r0 r tr es a h

pub returns-clause-named : goal.returns-clause-named
returns-clause-named c me b r0 r tr es a h = share_named me b r0 r tr es a h

pub returns-clause-left : goal.returns-clause-left
returns-clause-left c me b r0 r tr es a h = share_left me b r0 r tr es a h

pub returns-clause-dying : goal.returns-clause-dying
returns-clause-dying c me b r0 r tr es a h = share_dying me b r0 r tr es a h

pub returns-clause-reached : goal.returns-clause-reached
returns-clause-reached c me b r0 r tr es a h idle = share_reached me b r0 r tr es a h idle
