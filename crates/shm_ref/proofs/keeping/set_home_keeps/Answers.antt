use Rattle.shm_ref.specs.SetHome.{homing}
use Rattle.shm_ref.proofs.HomeKeeps.{home_empty, home_lasts, home_reached, home_refused, home_set}
use Rattle.shm_ref.proofs.keeping.set_home_keeps.Goals as goal

pub returns-clause-empty : goal.returns-clause-empty
returns-clause-empty c me b r0 r tr es a h = home_empty (homing me b) r0 r tr es a h

pub returns-clause-set : goal.returns-clause-set
returns-clause-set c me b r0 r tr es a h = home_set (homing me b) r0 r tr es a h

pub returns-clause-refused : goal.returns-clause-refused
returns-clause-refused c me b r0 r tr es a h = home_refused (homing me b) r0 r tr es a h

pub returns-clause-latch : goal.returns-clause-latch
returns-clause-latch c me b r0 r tr es a h = (home_lasts (homing me b) r0 r tr es a h).latch

pub returns-clause-roots : goal.returns-clause-roots
returns-clause-roots c me b r0 r tr es a h k = (home_lasts (homing me b) r0 r tr es a h).roots k

pub returns-clause-loose : goal.returns-clause-loose
returns-clause-loose c me b r0 r tr es a h = (home_lasts (homing me b) r0 r tr es a h).loose

pub returns-clause-reached : goal.returns-clause-reached
returns-clause-reached c me b r0 r tr es a h idle = home_reached (homing me b) r0 r tr es a h idle
