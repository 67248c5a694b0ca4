-- what machines over queues leave of what was received
use Rattle.std.specs.Prelude.{◌≡◌, ℕ}
use Rattle.shm_graph.specs.{declared.memo.Memo.Memo, MemoAfterStore.lane_with}

-- an item from s joined what was received
abbrev pub HasReceived : ℕ → Memo → Memo → Type 0
HasReceived s m r = (b : ℕ) × (r.received ≡ lane_with m.received s b)

-- nothing was received, and no count came to 0
abbrev pub IsLeft : Memo → Memo → Type 0
IsLeft m r = (r.received ≡ m.received) × (r.dying ≡ m.dying)
