-- what reading under a latch leaves of a memo, and what is left once the latch is given back
use Rattle.std.proofs.Common.{◌≡◌, ℕ}
use Rattle.std.specs.List.{Contains}
use Rattle.shm_graph.specs.{declared.memo.{Look.Look, Memo.Memo, Stored.Stored}, Core.core}

-- ---- what a load leaves

-- of a memo the looks, what is known and the value blocks may be others, and what was there is there
pub record ReadsMore (r x : Memo) : Type 0 where
  pub memo : core x ≡ core (record r { looks = x.looks; known = x.known; values = x.values })
  pub known : (s : Stored) → Contains r.known s → Contains x.known s
  pub looked : (k : Look) → Contains r.looks k → Contains x.looks k
  pub values : (b : ℕ) → Contains r.values b → Contains x.values b
