use Rattle.shm_table.proofs.bound.fetch_bound.Goals as goal

pub returns-clause-rooted : goal.returns-clause-rooted
returns-clause-rooted c me a key k v n r0 r tr es h = (h.keys, h.search, h.bound)

pub returns-clause-refused : goal.returns-clause-refused
returns-clause-refused c me a key f r0 r tr es h = (h.keys, h.search, h.bound)
