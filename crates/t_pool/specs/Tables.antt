-- clients of a pool for tables that may run each command
use Rattle.std.specs.Prelude.{◌≡◌, ◌≢◌, ◌<◌, ℕ, true, false, None, slice_index}
use Rattle.shm_graph.specs.Held.{is_loose}
use Rattle.shm_pool.specs.{Called.Rests, Tokens.{Acting, Its, Token, token_first}}

-- a token as a pool for tables was made with it
abbrev pub IsFirst : Its → Token → Type 0
IsFirst p t = (t ≡ token_first p t.account.who) × (p.start.tables ≡ true)

-- where no call of the client has died, it is between two calls, holds no latch, and nothing waits for a tail or a head
pub record IsOpen (t : Acting) : Type 0 where
  pub rests : Rests t
  pub none : t.dead ≡ false → t.account.memo.latch ≡ None
  pub table : t.dead ≡ false → is_loose t.account.memo.part ≡ false
  pub unsent : t.dead ≡ false → (j : ℕ) → slice_index t.account.memo.unsent j ≡ 0
  pub untaken : t.dead ≡ false → (j : ℕ) → slice_index t.account.memo.untaken j ≡ 0

-- it is another identity of the pool
abbrev pub IsPeer : Acting → ℕ → Type 0
IsPeer t c = (c < t.of.start.geometry.clients) × (c ≢ t.account.who)

-- it is the same identity of the same pool
abbrev pub SameIdentity : Acting → Acting → Type 0
SameIdentity t t' = (t'.of ≡ t.of) × (t'.account.who ≡ t.account.who)
