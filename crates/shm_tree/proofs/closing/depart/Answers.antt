use Rattle.std.proofs.Common.{sym, subst}
use Rattle.shm_tree.specs.Ending.{IsYoung}
use Rattle.shm_tree.proofs.Roomy.{young_fall}
use Rattle.shm_tree.proofs.closing.depart.Goals as goal

pub returns-then-is_spent-clause-roomy : goal.returns-then-is_spent-clause-roomy
returns-then-is_spent-clause-roomy c young = c.recover_dead.ensures.roomy (subst IsYoung (sym c.die.ensures.fallen) (young_fall c.args.pool.now young))
