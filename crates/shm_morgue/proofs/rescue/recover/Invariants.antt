use Rattle.std.proofs.Common.{◌≡◌, true, false}
use Rattle.shm_graph.specs.Agents.{acts}
use Rattle.shm_recover.specs.Machines.Recovering.{recover}
use Rattle.shm_pool.specs.Tokens.{me_of}
use Rattle.shm_morgue.proofs.Mending.{IsWorking}
use Rattle.shm_morgue.proofs.rescue.recover.Given as goal

abbrev pub invariant-steps : goal.invariant-steps
invariant-steps g l = record {
  of : l.rescuer.of ≡ l.pool;
  who : l.rescuer.seat.who ≡ l.fn.corpse.account.who;
  going : recover.finished l.rescuer.machine ≡ false;
  undone : l.rescuer.done ≡ false;
  working : acts l.fn.corpse.account.memo ≡ true → IsWorking (me_of l.fn.corpse.of l.fn.corpse.account) l.fn.corpse.account l.steps l.life.left l.rescuer;
}

abbrev pub decreases-steps : goal.decreases-steps
decreases-steps g l = l.life.left
