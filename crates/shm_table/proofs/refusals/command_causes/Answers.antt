use Rattle.shm_table.proofs.refusals.command_causes.Goals as goal

pub returns-clause-spent : goal.returns-clause-spent
returns-clause-spent c me r0 r e h = h

pub returns-clause-roots : goal.returns-clause-roots
returns-clause-roots c me r0 r h = h

pub returns-clause-full : goal.returns-clause-full
returns-clause-full c me r0 r s b h = h

pub returns-clause-count : goal.returns-clause-count
returns-clause-count c me r0 r b n h = h
