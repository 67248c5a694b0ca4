-- how many word steps a copy takes: by the keys that were read in both tables, and the blocks that were torn down or left on the way
use Rattle.std.proofs.Common.{◌≡◌, ℕ, ◌+◌, ◌*◌, ◌⊎◌, List, length, Bool}
use Rattle.std.specs.List.{All, Contains}
use Rattle.shm_graph.specs.{declared.{ask.Me.Me, memo.Memo.Memo}, Asks.{Trail, IsWithin}, Bounds.tear_steps}
use Rattle.shm_graph.specs.Events.{Event}
use Rattle.shm_count.specs.Tear.Events.{Visit, frees}
use Rattle.shm_table.specs.{CopyKey.copy_steps, PutRoot.HasSearch}

-- so many keys were read in the table of a, and so many in the own table, or none; these blocks are left of a tear-down, and so many word steps were made at most
abbrev pub IsCopyShort : Me → ℕ → ℕ → ℕ → (ℕ → ℕ → ℕ) → Memo → Trail → List Event → Type 0
IsCopyShort me key a other steps r tr es =
    (read : ℕ) × HasSearch me a other read tr × (keys : ℕ) × ((keys ≡ 0) ⊎ HasSearch me me.who key keys tr) × (vs : List Visit) × All (λ (x : Visit). Contains r.dying x.block) vs × IsWithin (steps (read + keys) (frees es + length vs)) tr

-- those of its calls
abbrev pub own_steps : Bool → ℕ → ℕ → ℕ → ℕ
own_steps wide g k t = copy_steps wide g + 2 * k + tear_steps wide t
