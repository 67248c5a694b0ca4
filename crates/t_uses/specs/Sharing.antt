-- clients of a pool that threads share, and tokens as it was made with them
use Rattle.std.specs.Prelude.{◌≡◌, ℕ, true, false, slice_index}
use Rattle.shm_graph.specs.Held.{is_loose}
use Rattle.shm_pool.specs.{Called.Rests, Tokens.{Acting, Its, Token, token_first}}

-- a token as a pool for single calls was made with it
abbrev pub IsFirst : Its → Token → Type 0
IsFirst p t = (t ≡ token_first p t.account.who) × (p.start.tables ≡ false)

-- where no call of the client has died, it is between two calls, in a pool for single calls, and nothing waits in its queues
pub record IsQuiet (t : Acting) : Type 0 where
  pub rests : Rests t
  pub single : t.dead ≡ false → is_loose t.account.memo.part ≡ true
  pub unsent : t.dead ≡ false → (j : ℕ) → slice_index t.account.memo.unsent j ≡ 0
  pub untaken : t.dead ≡ false → (j : ℕ) → slice_index t.account.memo.untaken j ≡ 0

-- it is the same identity of the same pool
abbrev pub SameIdentity : Acting → Acting → Type 0
SameIdentity t t' = (t'.of ≡ t.of) × (t'.account.who ≡ t.account.who)
