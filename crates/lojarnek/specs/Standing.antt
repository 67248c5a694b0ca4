-- how identities stand, and what takes one from one standing to another
use Rattle.std.specs.Prelude.{◌≡◌, ℕ, ◌-◌, ◌^◌, false, Option, None, slice_index}
use Rattle.shm_graph.specs.declared.{memo.Status.TheVariants.Gone, run.Account.Account}
use Rattle.kind_parts.specs.Reparting.{map_in}
use Rattle.shm_pool.specs.{Called.Rests, Tokens.{Acting, Token}}
use Rattle.lojarnek.specs.declared.{error.Error.{Error, TheVariants.{Died, EraSpent}}, stopped.Stopped.Stopped}

-- a client, and how many word steps are left of its budget
pub record Acts : Type 0 where
  pub token : Acting
  pub left : ℕ

-- this client, with so many word steps left
abbrev pub acts_of : Acting → ℕ → Acts
acts_of t n = record { token = t; left = n }

-- where the client hasn't died it is between two calls, holds no latch, and nothing waits for a tail or a head
pub record IsReadyForCall (t : Acting) : Type 0 where
  pub rests : Rests t
  pub none : t.dead ≡ false → t.account.memo.latch ≡ None
  pub unsent : t.dead ≡ false → (j : ℕ) → slice_index t.account.memo.unsent j ≡ 0
  pub untaken : t.dead ≡ false → (j : ℕ) → slice_index t.account.memo.untaken j ≡ 0

-- the map of the identity: of a key its number, and the value block that has it
abbrev pub account_map : Account → ℕ → Option (ℕ × ℕ)
account_map e = map_in e.memo.part

-- the map is what it was
abbrev pub KeepsMap : Account → Account → Type 0
KeepsMap e e' = (k : ℕ) → account_map e' k ≡ account_map e k

-- the identity has a client that lives, with an endless budget, and its map is what it was
pub record HasJoined (v : Token) (c : Acts) : Type 0 where
  pub same : (c.token.of ≡ v.of) × (c.token.account.who ≡ v.account.who)
  pub alive : c.token.dead ≡ false
  pub budget : c.left ≡ 2 ^ 64 - 1
  pub map : KeepsMap v.account c.token.account

-- what a client is when it has corpse_of
abbrev pub corpse_of : Acts → Token
corpse_of c = record { of = c.token.of; account = c.token.account }

-- the identity is gone, and its map is what it was
pub record IsRecovered (c v : Token) : Type 0 where
  pub same : (v.of ≡ c.of) × (v.account.who ≡ c.account.who)
  pub gone : v.account.memo.status ≡ Gone
  pub map : KeepsMap c.account v.account

-- why
abbrev pub IsStop : Error → Type 0
IsStop (Died d) = d ≡ false
IsStop (EraSpent e) = Unit {0}
IsStop e = ⊥

-- the identity is still there, and its map is what it was
pub record IsStopped (c : Token) (s : Stopped) : Type 0 where
  pub of : s.corpse.of ≡ c.of
  pub who : s.corpse.account.who ≡ c.account.who
  pub map : KeepsMap c.account s.corpse.account
  pub why : IsStop s.error
