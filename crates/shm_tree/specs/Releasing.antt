-- The latch that is given back behind a call.
use Rattle.std.specs.Prelude.{◌≡◌, ◌≢◌, ℕ, ◌+◌, ◌⊎◌, None, Result, Err, IfErr}
use Rattle.shm_plain.specs.Pools.{Pool, memo_of}
use Rattle.shm_tree.specs.{declared.stop.Stop.Stop, Keeping.IsStill, Spending.HasDied}
use Rattle.shm_tree.specs.Working.{IfAlive, IsUnderWay, IsWorking, Went}
use Rattle.shm_tree.specs.declared.stop.Stop.TheVariants as stop

-- it was given back, in three word steps, and nothing else was done
pub record IsGivenBack (p q : Pool) (x y : ℕ) : Type 0 where
  pub went : Went p q x y
  pub working : IsWorking q
  pub latch : (memo_of q 0).latch ≡ None
  pub still : IsStill p q
  pub steps : x ≡ y + 3

-- too few word steps were left for that
pub record IsHeldBack (p q : Pool) (x y : ℕ) : Type 0 where
  pub went : Went p q x y
  pub over : y ≡ 0
  pub off : IsUnderWay q
  pub late : HasDied 0 p q x

-- Behind a call that answered a it is answered r: that is a, and the latch was given back; or it had ended, and too few word steps were left for that; or it found none, and nothing was done
pub record Releases {T : Type 0} (a r : Result T Stop) (p q : Pool) (x y : ℕ) : Type 0 where
  pub given : IfAlive r (IsGivenBack p q x y × (r ≡ a))
  pub died : IfErr r (λ e. e ≡ stop.Died → ((a ≢ Err stop.Died) × IsHeldBack p q x y) ⊎ ((r ≡ a) × (q ≡ p) × (y ≡ x)))
