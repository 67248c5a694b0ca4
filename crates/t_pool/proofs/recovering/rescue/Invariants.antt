use Rattle.std.specs.Prelude.{◌≡◌, false}
use Rattle.shm_recover.specs.Machines.Recovering.{recover}
use Rattle.t_pool.proofs.recovering.rescue.Given as goal

abbrev pub invariant-loop : goal.invariant-loop
invariant-loop l = (l.rescuer.of ≡ l.pool) × (recover.finished l.rescuer.machine ≡ false)

abbrev pub decreases-loop : goal.decreases-loop
decreases-loop l = l.life.left
