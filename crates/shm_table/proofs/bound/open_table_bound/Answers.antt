use Rattle.shm_table.proofs.bound.open_table_bound.Goals as goal

pub returns-clause-done : goal.returns-clause-done
returns-clause-done c me r0 r tr es h = h.bound

pub returns-clause-refused : goal.returns-clause-refused
returns-clause-refused c me r0 r tr es f h = (h.visits, h.left, h.bound)
