-- Calls that only look.
use Rattle.std.specs.Prelude.{◌≡◌, ℕ, Result, IfErr, IfOk}
use Rattle.shm_plain.specs.Pools.{Pool}
use Rattle.shm_tree.specs.{declared.stop.Stop.Stop, Keeping.IsStill}
use Rattle.shm_tree.specs.Working.{IsCutOff, IsSameLatch, IsWorking, Reaches, Went}
use Rattle.shm_tree.specs.declared.stop.Stop.TheVariants as stop

-- A call that only looks leaves of the pool p and x word steps the pool q and y: nothing was done, and what was in reach is so still; or it stopped, since no word step was left
pub record Looks {T : Type 0} (r : Result T Stop) (p q : Pool) (x y : ℕ) : Type 0 where
  pub went : Went p q x y
  pub working : IfOk r (λ v. IsWorking q)
  pub latch : IfOk r (λ v. IsSameLatch p q)
  pub still : IfOk r (λ v. IsStill p q)
  pub reaches : IfOk r (λ v. Reaches p q)
  pub died : IfErr r (λ e. (e ≡ stop.Died) × (y ≡ 0) × IsCutOff p q)
