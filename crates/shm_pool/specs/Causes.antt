-- why a closing was refused
use Rattle.std.specs.Prelude.{ℕ}
use Rattle.shm_pool.specs.declared.closing.CloseCause.{CloseCause, TheVariants.{Memory, Missing}}

-- what is said of the identity whose token was missing
abbrev pub IfMissing : CloseCause → (ℕ → Type 0) → Type 0
IfMissing (Memory e) P = Unit {0}
IfMissing (Missing c) P = P c
