use Rattle.shm_audit.proofs.ReadingBack.{sizes_back, words_back, frame_back}
use Rattle.shm_audit.proofs.image.image_reads_back.Goals as goal

pub returns-clause-frame : goal.returns-clause-frame
returns-clause-frame c = frame_back

pub returns-clause-sizes : goal.returns-clause-sizes
returns-clause-sizes c = sizes_back

pub returns-clause-words : goal.returns-clause-words
returns-clause-words c = words_back
