-- What a sink in memory is.
use Rattle.std.specs.Prelude.{◌≡◌, ℕ, ◌-◌, ◌<◌, ◌≤◌, List, ◌++◌, length}
use Rattle.shm_io.specs.Faults.{next_count}

-- the bytes held, how many there may be, the most bytes that a write takes, the numbers of the writes that fail, how many writes and faults there were
pub record Store : Type 0 where
  pub held : List ℕ
  pub room : ℕ
  pub piece : ℕ
  pub fails : List ℕ
  pub calls : ℕ
  pub faults : ℕ

-- a write takes at least a byte, and the bytes held are within the room
pub record IsStore (piece len room : ℕ) : Type 0 where
  pub some : 0 < piece
  pub within : len ≤ room

-- the room that is left
abbrev pub free_room : Store → ℕ
free_room s = s.room - length s.held

-- no room is left, and there is something to write
abbrev pub IsUsedUp : Store → ℕ → Type 0
IsUsedUp s len = (free_room s ≡ 0) × (0 < len)

-- after a write of these bytes
abbrev pub after_write : Store → List ℕ → Store
after_write s bytes = record s { held = s.held ++ bytes; calls = next_count s.calls }

-- after a write that failed
abbrev pub after_failed_write : Store → Store
after_failed_write s = record s { calls = next_count s.calls; faults = next_count s.faults }
