use Rattle.shm_program.proofs.Fronts.{both_fronts, text_same, writes_front}
use Rattle.shm_program.proofs.stream_laws.calls_write_fronts_of_one_text.Goals as goal

pub returns-clause-front : goal.returns-clause-front
returns-clause-front c = writes_front

pub returns-clause-one : goal.returns-clause-one
returns-clause-one c = text_same

pub returns-clause-both : goal.returns-clause-both
returns-clause-both c ws left old new before after code other made two determined told again call next =
    both_fronts ws determined left old new before after code other told again (writes_front ws old new code made call) (writes_front ws before after other two next)
