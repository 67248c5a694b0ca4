use Rattle.shm_ref.proofs.keeping.root_of_keeps.Goals as goal

pub returns-clause-names : goal.returns-clause-names
returns-clause-names c me k b r0 r tr es h = h.names

pub returns-clause-same : goal.returns-clause-same
returns-clause-same c me k b r0 r tr es h = h.memo
