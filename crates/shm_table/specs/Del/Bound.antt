-- how many word steps the removal of a key takes: by the keys that were read, and the blocks that were torn down or left on the way
use Rattle.std.proofs.Common.{ℕ, ◌+◌, List, length}
use Rattle.std.specs.List.{All, Contains}
use Rattle.shm_graph.specs.{declared.{ask.Me.Me, memo.Memo.Memo}, Asks.{Trail, IsWithin}, Events.Event}
use Rattle.shm_count.specs.Tear.Events.{Visit, frees}
use Rattle.shm_table.specs.{declared.find.Found.Found, Del.IsSearched, Find.Bound.keys_read}

-- so many keys were read by the search, these blocks are left of a tear-down, and so many word steps were made at most
abbrev pub IsShort : Me → ℕ → (ℕ → ℕ → ℕ) → Memo → Trail → List Event → Type 0
IsShort me key steps r tr es = (b : Found) × (s : IsSearched me key b tr) × (vs : List Visit) × All (λ (x : Visit). Contains r.dying x.block) vs × IsWithin (steps (keys_read s.read b) (frees es + length vs)) tr
