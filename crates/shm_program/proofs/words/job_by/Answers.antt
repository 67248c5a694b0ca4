use Rattle.std.proofs.Common.{◌∙◌, map}
use Rattle.std.specs.String.{string_bytes}
use Rattle.shm_program.proofs.Commands.{asked_when, unasked_when}
use Rattle.shm_program.proofs.words.job_by.Goals as goal

pub returns-in-Some-clause-job : goal.returns-in-Some-clause-job
returns-in-Some-clause-job c = c.job_in.ensures.job ∙ asked_when c.args.name (map string_bytes c.args.words.now) c.in_ok-given.field-0 c.in-Some.given c.in-Some.is c.in_ok-given.ensures

pub returns-in-None-clause-job : goal.returns-in-None-clause-job
returns-in-None-clause-job c = unasked_when c.args.name (map string_bytes c.args.words.now) c.in_ok-given.field-0 c.in-None.is c.in_ok-given.ensures
