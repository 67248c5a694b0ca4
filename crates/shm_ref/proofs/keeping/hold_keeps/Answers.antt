use Rattle.shm_ref.specs.Hold.Control.{holding}
use Rattle.shm_ref.proofs.LatchKeeps.{hold_held, hold_loose, hold_reaches, hold_refused, hold_roots, hold_waiting}
use Rattle.shm_ref.proofs.keeping.hold_keeps.Goals as goal

pub returns-clause-held : goal.returns-clause-held
returns-clause-held c me a r0 r tr es b h = hold_held (holding me a) r0 r tr es b h

pub returns-clause-refused : goal.returns-clause-refused
returns-clause-refused c me a r0 r tr es b h none = hold_refused (holding me a) r0 r tr es b h none

pub returns-clause-roots : goal.returns-clause-roots
returns-clause-roots c me a r0 r tr es b h k = hold_roots (holding me a) r0 r tr es b h k

pub returns-clause-reaches : goal.returns-clause-reaches
returns-clause-reaches c me a r0 r tr es b h d = hold_reaches (holding me a) r0 r tr es b h d

pub returns-clause-loose : goal.returns-clause-loose
returns-clause-loose c me a r0 r tr es b h = hold_loose (holding me a) r0 r tr es b h

pub returns-clause-waiting : goal.returns-clause-waiting
returns-clause-waiting c me a r0 r tr es b h = hold_waiting (holding me a) r0 r tr es b h
