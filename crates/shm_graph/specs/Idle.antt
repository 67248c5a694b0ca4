-- an identity between two calls of its client
use Rattle.std.specs.Prelude.{◌≡◌, ℕ, ◌+◌, Option, Some, None}
use Rattle.shm_graph.specs.declared.{spot.Spot.TheVariants.Hold, memo.{Op.TheVariants.Nothing, Memo.Memo}}
use Rattle.shm_graph.specs.Views.{own_word}
use Rattle.shm_graph.specs.declared.memo.Status.TheVariants as status

-- the hold word of an identity that holds this latch
abbrev pub hold_word : Option ℕ → ℕ
hold_word None = 0
hold_word (Some a) = a + 1

-- c is live, no step is in progress, no block is prepared, and the hold word names the latch that is held: each machine of a client begins so, and leaves it so once it has answered
pub record IsIdle (c : ℕ) (m : Memo) : Type 0 where
  pub live : m.status ≡ status.Live
  pub op : m.op ≡ Nothing
  pub making : m.making ≡ None
  pub hold : own_word m.own (Hold c) ≡ hold_word m.latch
