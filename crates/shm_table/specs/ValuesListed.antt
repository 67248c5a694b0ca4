-- loads under a latch that list value blocks: what stays, and what is kept
use Rattle.std.proofs.Common.{◌≡◌, ℕ}
use Rattle.std.specs.List.{Contains}
use Rattle.shm_graph.specs.{declared.memo.{Look.Look, Memo.Memo, Stored.Stored}, Core.core}

-- nothing of the memo changed but that more words are known, more blocks are looked at, and more are listed as value blocks
pub record ReadsMore (m r : Memo) : Type 0 where
  pub memo : core r ≡ core (record m { looks = r.looks; known = r.known; values = r.values })
  pub known : (s : Stored) → Contains m.known s → Contains r.known s
  pub looked : (k : Look) → Contains m.looks k → Contains r.looks k
  pub listed : (b : ℕ) → Contains m.values b → Contains r.values b
