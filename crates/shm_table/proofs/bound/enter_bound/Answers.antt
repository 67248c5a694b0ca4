use Rattle.std.proofs.Common.{arith}
use Rattle.shm_table.specs.declared.enter.Entered.TheVariants.{Unmade}
use Rattle.shm_table.proofs.bound.enter_bound.Goals as goal

pub returns : goal.returns
returns c me key v home first r0 r tr es (Unmade f) h = let l = h.bound in omega arith
returns c me key v home first r0 r tr es _ h = h.bound
