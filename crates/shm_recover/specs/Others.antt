-- the other identities of a pool, one after the other
use Rattle.std.proofs.Common.{ℕ, ◌+◌, ◌<◌}
use Rattle.std.specs.Prelude.{nat_lt, if◌then◌else◌}
use Rattle.shm_graph.specs.declared.{ask.Me.Me, memo.Memo.Memo}
use Rattle.shm_ref.specs.Lefts.{MayDrop}

-- no step of the identity is in progress, and the pool has other identities, to which it has queues
pub record MayServe (me : Me) (m : Memo) : Type 0 where
  pub may : MayDrop me m
  pub others : 1 < me.geometry.clients

-- number k of those besides c, from 0
abbrev pub other_at : ℕ → ℕ → ℕ
other_at c k = if nat_lt k c then k else k + 1
