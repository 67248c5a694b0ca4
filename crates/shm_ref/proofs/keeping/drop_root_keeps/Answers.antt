use Rattle.shm_ref.specs.DropRoot.Control.{dropping}
use Rattle.shm_ref.proofs.RootKeeps.{drop_dying, drop_emptied, drop_named, drop_queues, drop_reached, drop_roots}
use Rattle.shm_ref.proofs.keeping.drop_root_keeps.Goals as goal

pub returns-clause-emptied : goal.returns-clause-emptied
returns-clause-emptied c me k r0 r tr es a h = drop_emptied (dropping me k) r0 r tr es a h

pub returns-clause-named : goal.returns-clause-named
returns-clause-named c me k r0 r tr es a h = drop_named (dropping me k) r0 r tr es a h

pub returns-clause-dying : goal.returns-clause-dying
returns-clause-dying c me k r0 r tr es a h = drop_dying (dropping me k) r0 r tr es a h

pub returns-clause-roots : goal.returns-clause-roots
returns-clause-roots c me k r0 r tr es a h j other = drop_roots (dropping me k) r0 r tr es a h j other

pub returns-clause-left : goal.returns-clause-left
returns-clause-left c me k r0 r tr es a h = drop_queues (dropping me k) r0 r tr es a h

pub returns-clause-reached : goal.returns-clause-reached
returns-clause-reached c me k r0 r tr es a h = drop_reached (dropping me k) r0 r tr es a h
