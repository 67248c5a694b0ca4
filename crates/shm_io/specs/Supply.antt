-- What a source in memory is.
use Rattle.std.specs.Prelude.{ℕ, ◌<◌, ◌≤◌, List, drop}
use Rattle.shm_io.specs.Faults.{next_count}

-- the bytes left, the most bytes that a read gives, the numbers of the reads that fail, how many reads and faults there were
pub record Supply : Type 0 where
  pub left : List ℕ
  pub piece : ℕ
  pub fails : List ℕ
  pub calls : ℕ
  pub faults : ℕ

-- a read gives at least a byte, and the place of the next byte is in the bytes
pub record IsSupply (piece at len : ℕ) : Type 0 where
  pub some : 0 < piece
  pub within : at ≤ len

-- after a read of n bytes
abbrev pub after_read : Supply → ℕ → Supply
after_read s n = record s { left = drop n s.left; calls = next_count s.calls }

-- after a read that failed
abbrev pub after_failed_read : Supply → Supply
after_failed_read s = record s { calls = next_count s.calls; faults = next_count s.faults }
