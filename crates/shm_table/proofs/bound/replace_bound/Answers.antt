use Rattle.shm_table.proofs.bound.replace_bound.Goals as goal

pub returns-clause-done : goal.returns-clause-done
returns-clause-done c me entry v r0 r tr es z h = (h.0.left, h.0.events, h.0.bound)

pub returns-clause-refused : goal.returns-clause-refused
returns-clause-refused c me entry v r0 r tr es f h = h.bound
