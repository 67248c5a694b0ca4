-- Calls that change something, done or refused.
use Rattle.std.specs.Prelude.{ℕ, ◌+◌, ◌≤◌, Result, IfErr}
use Rattle.shm_plain.specs.Pools.{Pool}
use Rattle.shm_tree.specs.{declared.{hints.Hints.Hints, stop.Stop.Stop}, Causes.StopCause, Spending.DiesAfter}
use Rattle.shm_tree.specs.Working.{DiedIn, IfAlive, IfRefused, IsSameLatch, IsWorking, Reaches, Went}

-- A call that changes something leaves of the pool p and x word steps the pool q and y: it took at most c of them, and what was in reach is so still; where it was refused L holds of both pools, and it had a cause; or it stopped, since no word step was left, at the latest in the call that was begun when c had gone
pub record Changes {T : Type 0} (hints : Hints) (c : ℕ) (L : Pool → Pool → Type 0) (r : Result T Stop) (p q : Pool) (x y : ℕ) : Type 0 where
  pub went : Went p q x y
  pub working : IfAlive r (IsWorking q)
  pub latch : IfAlive r (IsSameLatch p q)
  pub reaches : IfAlive r (Reaches p q)
  pub refused : IfRefused r (L p q)
  pub steps : IfAlive r (x ≤ y + c)
  pub cause : IfErr r (λ e. StopCause hints p q e)
  pub died : IfErr r (λ e. DiedIn e p q y)
  pub late : DiesAfter c r p q x
