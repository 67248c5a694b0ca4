-- how many word steps a put takes: by the keys that were read, and the blocks that were torn down or left on the way
use Rattle.std.proofs.Common.{◌≡◌, ℕ, ◌+◌, ◌*◌, Bool, ◌⊎◌, List, length}
use Rattle.std.specs.List.{All, Contains}
use Rattle.shm_graph.specs.{declared.{ask.Me.Me, memo.Memo.Memo}, Asks.{Trail, IsWithin}, Bounds.tear_steps}
use Rattle.shm_graph.specs.Events.{Event}
use Rattle.shm_count.specs.Tear.Events.{Visit, frees}
use Rattle.shm_table.specs.PutRoot.{HasSearch, put_root_steps}

-- so many keys were read by the search, or none was made, these blocks are left of a tear-down, and so many word steps were made at most
abbrev pub IsPutShort : Me → ℕ → (ℕ → ℕ → ℕ) → Memo → Trail → List Event → Type 0
IsPutShort me key steps r tr es = (k : ℕ) × ((k ≡ 0) ⊎ HasSearch me me.who key k tr) × (vs : List Visit) × All (λ (x : Visit). Contains r.dying x.block) vs × IsWithin (steps k (frees es + length vs)) tr

-- those of its calls
abbrev pub own_steps : Bool → ℕ → ℕ → ℕ → ℕ
own_steps wide g k t = put_root_steps wide g + 2 * k + tear_steps wide t
