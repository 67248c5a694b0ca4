use Rattle.shm_table.specs.Proved.Find.Bound.{find_within}
use Rattle.shm_table.proofs.bound.find_bound.Goals as goal

pub returns : goal.returns
returns c me a key r0 r tr es b h = find_within me a key r0 r tr es b h
