-- identities with nothing to finish
use Rattle.std.specs.Prelude.{◌≡◌, ℕ, true, None, [], slice_index}
use Rattle.shm_graph.specs.{declared.memo.Memo.Memo, Held.is_loose}

-- no latch is held, no count came to 0, and no block waits for a tail and no item for a head, in a pool that isn't for tables
pub record IsClear (m : Memo) : Type 0 where
  pub loose : is_loose m.part ≡ true
  pub latch : m.latch ≡ None
  pub dying : m.dying ≡ []
  pub unsent : (j : ℕ) → slice_index m.unsent j ≡ 0
  pub untaken : (j : ℕ) → slice_index m.untaken j ≡ 0
