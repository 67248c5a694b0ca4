use Rattle.shm_alone.specs.Proved.ScanEnds.{scan_ends}
use Rattle.shm_alone.proofs.recovering.scan_ends.Goals as goal

pub returns-clause-ends : goal.returns-clause-ends
returns-clause-ends c = scan_ends
