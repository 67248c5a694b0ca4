use Rattle.shm_audit.proofs.CleanImages.{image_faultless, image_verdict}
use Rattle.shm_audit.proofs.auditing.clean_images.Goals as goal

pub returns-clause-faultless : goal.returns-clause-faultless
returns-clause-faultless c = λ g ws f whole small clean. image_faultless g ws f small clean whole

pub returns-clause-verdict : goal.returns-clause-verdict
returns-clause-verdict c = image_verdict
