-- what lies at the desk of an identity
use Rattle.std.specs.Prelude.{◌≡◌, ℕ}
use Rattle.shm_pool.specs.Tokens.{Its}
use Rattle.lojarnek.specs.declared.desk.Rest.{Rest, TheVariants.{Vacant, Corpse}}

-- the token is of identity c of this pool
abbrev pub IsAt : Its → ℕ → Rest → Type 0
IsAt p c (Vacant t) = (t.of ≡ p) × (t.account.who ≡ c)
IsAt p c (Corpse t) = (t.of ≡ p) × (t.account.who ≡ c)
