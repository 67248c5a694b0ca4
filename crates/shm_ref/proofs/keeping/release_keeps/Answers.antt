use Rattle.shm_ref.proofs.LatchKeeps.{release_loose, release_reached, release_roots, release_waiting}
use Rattle.shm_ref.proofs.keeping.release_keeps.Goals as goal

pub returns-clause-looks : goal.returns-clause-looks
returns-clause-looks c me r0 r tr es h = h.looks

pub returns-clause-roots : goal.returns-clause-roots
returns-clause-roots c me r0 r tr es h k = release_roots me r0 r tr es h k

pub returns-clause-loose : goal.returns-clause-loose
returns-clause-loose c me r0 r tr es h = release_loose me r0 r tr es h

pub returns-clause-waiting : goal.returns-clause-waiting
returns-clause-waiting c me r0 r tr es h = release_waiting me r0 r tr es h

pub returns-clause-reached : goal.returns-clause-reached
returns-clause-reached c me r0 r tr es h idle = release_reached me r0 r tr es h idle
