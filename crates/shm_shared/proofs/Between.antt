-- a client between two operations
use Rattle.std.proofs.Common.{◌≡◌, ℕ, Bool, false, [], ◌∙◌}
use Rattle.std.specs.Prelude.{None, slice_index}
use Rattle.shm_graph.specs.{declared.{ask.Me.Me, memo.Memo.Memo}, Agents.recovers, Held.is_loose, Idle.IsIdle}
use Rattle.shm_count.specs.Waiting.{IsQuiet, LeavesQueues, LeavesWaiting}

-- it holds no latch, has no zero-count block, and of its queues none waits for a tail or a head; the pool is for single blocks, or it isn't
pub record IsBetween (loose : Bool) (me : Me) (r : Memo) : Type 0 where
  pub idle : IsIdle me.who r
  pub client : recovers r ≡ false
  pub latch : r.latch ≡ None
  pub dying : r.dying ≡ []
  pub pool : is_loose r.part ≡ loose
  pub unsent : (i : ℕ) → slice_index r.unsent i ≡ 0
  pub untaken : (i : ℕ) → slice_index r.untaken i ≡ 0

-- what waits, and which blocks have no count, stays nothing
pub still_quiet : (m r : Memo) → LeavesWaiting m r → IsQuiet m → IsQuiet r
still_quiet m r h q = record { dying = h.dying ∙ q.dying; unsent = λ j. h.unsent j ∙ q.unsent j; untaken = λ j. h.untaken j ∙ q.untaken j }

pub waiting : (m r : Memo) → LeavesQueues m r → r.dying ≡ m.dying → LeavesWaiting m r
waiting m r h dying = record { dying = dying; unsent = h.unsent; untaken = h.untaken }
