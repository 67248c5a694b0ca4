use Rattle.shm_count.proofs.Steady.Tears.{tear_stays}
use Rattle.shm_count.proofs.stays.tear_partitions.Goals as goal

pub returns : goal.returns
returns c m r0 r tr fit = tear_stays m r0 r tr fit
