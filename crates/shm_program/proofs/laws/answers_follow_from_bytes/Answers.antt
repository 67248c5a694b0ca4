use Rattle.shm_program.proofs.SameTexts.{answers_same, status_same}
use Rattle.shm_program.proofs.laws.answers_follow_from_bytes.Goals as goal

pub returns-clause-status : goal.returns-clause-status
returns-clause-status c = status_same

pub returns-clause-text : goal.returns-clause-text
returns-clause-text c = answers_same
