use Rattle.shm_ref.specs.SetRef.Control.{setting}
use Rattle.shm_ref.proofs.SetKeeps.{set_dying, set_held, set_known, set_lasts, set_reached, set_told}
use Rattle.shm_ref.proofs.keeping.set_ref_keeps.Goals as goal

pub returns-clause-held : goal.returns-clause-held
returns-clause-held c me b k to r0 r tr es a h idle = set_held (setting me b k to) r0 r tr es a h idle

pub returns-clause-set : goal.returns-clause-set
returns-clause-set c me b k to r0 r tr es a h = set_known (setting me b k to) r0 r tr es a h

pub returns-clause-refused : goal.returns-clause-refused
returns-clause-refused c me b k to r0 r tr es a h idle = set_told (setting me b k to) r0 r tr es a h idle

pub returns-clause-left : goal.returns-clause-left
returns-clause-left c me b k to r0 r tr es a h = (set_lasts (setting me b k to) r0 r tr es a h).left

pub returns-clause-dying : goal.returns-clause-dying
returns-clause-dying c me b k to r0 r tr es a h = set_dying (setting me b k to) r0 r tr es a h

pub returns-clause-roots : goal.returns-clause-roots
returns-clause-roots c me b k to r0 r tr es a h j = (set_lasts (setting me b k to) r0 r tr es a h).roots j

pub returns-clause-reached : goal.returns-clause-reached
returns-clause-reached c me b k to r0 r tr es a h idle = set_reached (setting me b k to) r0 r tr es a h idle
