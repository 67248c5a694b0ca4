use Rattle.shm_table.proofs.bound.unlink_bound.Goals as goal

pub returns-clause-done : goal.returns-clause-done
returns-clause-done c me entry before word r0 r tr es h = (h.left, h.events, h.bound)

pub returns-clause-refused : goal.returns-clause-refused
returns-clause-refused c me entry before word r0 r tr es f h = h.bound
