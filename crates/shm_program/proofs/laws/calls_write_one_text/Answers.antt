use Rattle.shm_program.proofs.SameCalls.{asked_apart, decided_same}
use Rattle.shm_program.proofs.laws.calls_write_one_text.Goals as goal

pub returns-clause-text : goal.returns-clause-text
returns-clause-text c = decided_same

pub returns-clause-apart : goal.returns-clause-apart
returns-clause-apart c = asked_apart
