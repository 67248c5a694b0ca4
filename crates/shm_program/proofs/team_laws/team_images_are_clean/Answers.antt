use Rattle.shm_program.specs.Replays.{team_pool}
use Rattle.shm_program.proofs.CleanImages.{clean_answer, faultless_image, text_ends}
use Rattle.shm_program.proofs.team_laws.team_images_are_clean.Goals as goal

pub returns-clause-faultless : goal.returns-clause-faultless
returns-clause-faultless c how t finished image (r, told) = faultless_image (team_pool r.run r.turns) r.team.closed image told

pub returns-clause-audited : goal.returns-clause-audited
returns-clause-audited c how t finished ended image text status (r, told) = clean_answer (team_pool r.run r.turns) r.team.closed image told ended text status

pub returns-clause-report : goal.returns-clause-report
returns-clause-report c how t finished report (r, told) = text_ends (team_pool r.run r.turns) r.team.table r.run.logs.items report told
