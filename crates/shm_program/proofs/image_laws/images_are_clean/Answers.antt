use Rattle.shm_program.proofs.CleanImages.{clean_answer, faultless_image, report_ends}
use Rattle.shm_program.proofs.image_laws.images_are_clean.Goals as goal

pub returns-clause-faultless : goal.returns-clause-faultless
returns-clause-faultless c t finished image (r, told) = faultless_image r.run.closed r.replay.closed image told

pub returns-clause-audited : goal.returns-clause-audited
returns-clause-audited c t finished ended image text status (r, told) = clean_answer r.run.closed r.replay.closed image told ended text status

pub returns-clause-report : goal.returns-clause-report
returns-clause-report c = report_ends
