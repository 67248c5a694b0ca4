-- what waits in queues, by the memos before a call and after it
use Rattle.std.specs.Prelude.{◌≡◌, ℕ, [], slice_index}
use Rattle.shm_graph.specs.{declared.memo.Memo.Memo, Held.is_loose}

-- whatever is answered, the latch is as it was, the same blocks and items wait for a tail or a head, and the pool is for tables still, or still isn't
pub record LeavesQueues (m r : Memo) : Type 0 where
  pub latch : r.latch ≡ m.latch
  pub unsent : (j : ℕ) → slice_index r.unsent j ≡ slice_index m.unsent j
  pub untaken : (j : ℕ) → slice_index r.untaken j ≡ slice_index m.untaken j
  pub loose : is_loose r.part ≡ is_loose m.part

-- the same blocks wait for a tail and the same items for a head, and the same zero-count blocks are left
pub record LeavesWaiting (m r : Memo) : Type 0 where
  pub dying : r.dying ≡ m.dying
  pub unsent : (j : ℕ) → slice_index r.unsent j ≡ slice_index m.unsent j
  pub untaken : (j : ℕ) → slice_index r.untaken j ≡ slice_index m.untaken j

-- no count came to 0, and no block waits for a tail and no item for a head
pub record IsQuiet (m : Memo) : Type 0 where
  pub dying : m.dying ≡ []
  pub unsent : (j : ℕ) → slice_index m.unsent j ≡ 0
  pub untaken : (j : ℕ) → slice_index m.untaken j ≡ 0
