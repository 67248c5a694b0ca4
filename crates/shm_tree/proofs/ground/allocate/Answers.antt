use Rattle.std.proofs.Common.{subst}
use Rattle.shm_plain.specs.Pools.{Pool}
use Rattle.shm_tree.specs.Asking.{Allocates}
use Rattle.shm_tree.proofs.ground.allocate.Goals as goal

pub returns : goal.returns
returns c = subst (λ (p : Pool). Allocates c.args.hints c.args.plain.now c.allocate_by.result p c.allocate_by.new.pool c.args.life.now.left c.allocate_by.new.life.left) c.pool.view_is c.allocate_by.ensures
