-- what the roots of a client name
use Rattle.std.specs.Prelude.{◌≡◌, ◌≢◌, ℕ, ◌<◌, false, List, Some, slice_index}
use Rattle.shm_graph.specs.declared.run.Account.{Account}
use Rattle.shm_count.specs.Roots.{root_word}
use Rattle.shm_pool.specs.{Called.Rests, Tokens.Acting}
use Rattle.lojarnek.specs.Standing.{IsReadyForCall}

-- the block that root k of an account names, and 0 where it names none
abbrev pub account_root : Account → ℕ → ℕ
account_root e k = root_word e.who e.memo k

-- in a pool for blocks, where the client lives, these are the blocks that its roots name
abbrev pub KnowsRoots : Acting → List ℕ → Type 0
KnowsRoots t bs = t.of.start.tables ≡ false → t.dead ≡ false → (k : ℕ) → k < 16 → account_root t.account k ≡ slice_index bs k

-- the client lives and is ready for a call, in a pool for blocks
pub record IsAtBlocks (t : Acting) : Type 0 where
  pub ready : IsReadyForCall t
  pub kind : t.of.start.tables ≡ false
  pub alive : t.dead ≡ false

-- the client lives and is between two calls, in a pool for blocks; it holds the latch of client a, and nothing waits for a tail or a head
pub record IsHolding (a : ℕ) (t : Acting) : Type 0 where
  pub rests : Rests t
  pub kind : t.of.start.tables ≡ false
  pub alive : t.dead ≡ false
  pub latch : t.account.memo.latch ≡ Some a
  pub unsent : (j : ℕ) → slice_index t.account.memo.unsent j ≡ 0
  pub untaken : (j : ℕ) → slice_index t.account.memo.untaken j ≡ 0

-- a root of the client names the block
pub record IsNamed (b : ℕ) (t : Acting) : Type 0 where
  pub root : ℕ
  pub low : root < 16
  pub some : b ≢ 0
  pub named : account_root t.account root ≡ b
