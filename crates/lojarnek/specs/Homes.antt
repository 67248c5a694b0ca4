-- where an identity is at home
use Rattle.std.specs.Prelude.{◌≡◌, ℕ}
use Rattle.shm_pool.specs.Tokens.{Its}
use Rattle.lojarnek.specs.declared.place.Place.{Place}

-- the place is that of identity c of this pool
abbrev pub IsHome : Place → Its → ℕ → Type 0
IsHome x p c = (x.pool.now ≡ p) × (x.desk.now.who ≡ c)
