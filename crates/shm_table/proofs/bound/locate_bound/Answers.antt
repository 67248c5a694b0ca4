use Rattle.shm_table.specs.Proved.Get.Bound.{locate_within}
use Rattle.shm_table.proofs.bound.locate_bound.Goals as goal

pub returns : goal.returns
returns c me a key r0 r tr es b h = locate_within me a key r0 r tr es b h
