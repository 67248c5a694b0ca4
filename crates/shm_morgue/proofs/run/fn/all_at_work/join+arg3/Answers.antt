use Rattle.std.proofs.Common.{refl, sym, subst, arith, List}
use Rattle.std.specs.List.{Contains}
use Rattle.shm_pool.specs.Tokens.{Its}
use Rattle.shm_morgue.proofs.run.fn.all_at_work.join+arg3.Goals as goal

pub work_all-requires-clause-pool : goal.work_all-requires-clause-pool
work_all-requires-clause-pool g c = λ κs within. subst (λ (ps : List Its). Contains ps c.captures.pool.now) (sym c.requires.1) (0, omega arith, refl)
