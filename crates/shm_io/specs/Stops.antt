-- Why a reading stopped before its end.
use Rattle.std.specs.Prelude.{◌≡◌, ℕ, List, codes}
use Rattle.shm_io.specs.{Faults.Rose, declared.reading.ReadStop.{ReadStop, TheVariants.{Memory, Fault}}}

-- a fault is told only where the count of faults rose, and want of memory only where it stayed
abbrev pub HasCause : ℕ → ℕ → ReadStop → Type 0
HasCause before after (Memory _) = after ≡ before
HasCause before after (Fault _) = Rose before after

-- what is printed of it
abbrev pub text_of : ReadStop → List ℕ
text_of (Memory _) = codes "no memory for the bytes"
text_of (Fault _) = codes "a read failed"
