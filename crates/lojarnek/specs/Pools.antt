-- a pool and its desks
use Rattle.std.specs.Prelude.{◌≡◌, ℕ, List, [], ◌∷◌}
use Rattle.shm_pool.specs.Tokens.{Its}
use Rattle.lojarnek.specs.declared.{desk.{Desk.Desk, Rest.Rest}, place.Place.Place, error.Error.Error}
use Rattle.lojarnek.specs.{declared.error.Error.TheVariants.{NoMemory, NotVacant}, Homes.IsHome, Rests.IsAt}

-- each of them is of this pool
abbrev pub AreDesks : Its → List Desk → Type 0
AreDesks p [] = Unit {0}
AreDesks p (d ∷ ds) = (d.slot.pool.value ≡ p) × AreDesks p ds

-- the token of identity c was taken from its desk
abbrev pub IsTakenFrom : Its → ℕ → Place × Rest → Type 0
IsTakenFrom p c r = IsHome r.0 p c × IsAt p c r.1

-- why a pool isn't closed
abbrev pub IsUnclosed : Error → Type 0
IsUnclosed NoMemory = Unit {0}
IsUnclosed (NotVacant c) = Unit {0}
IsUnclosed e = ⊥
