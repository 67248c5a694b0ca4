-- a post as contracts see it
use Rattle.std.specs.{Prelude.{◌≡◌, ℕ, ◌<◌, Bool, true, false, if◌then◌else◌, List}, Option.is_some}
use Rattle.atomic_table.specs.declared.shared.Seat.{Seat}
use Rattle.shm_graph.specs.{declared.{memo.Memo.Memo, run.{Account.Account, Start.Start}}, Agents.{acts, last_agent}}
use Rattle.shm_graph.specs.Runs.{Stood, account_died, fell_by}
use Rattle.shm_pool.specs.{Rules.alone, Tokens.{Token, its}}

-- the account of the identity: a death is noted before the next agent begins
abbrev pub account_seen : Bool → Account → Account
account_seen fallen e = if fallen then account_died e else e

abbrev pub post_of : Start → Bool → Seat (Unit {0}) (List Account) → Token
post_of start fallen s = record { of = its s.table_id start; account = account_seen fallen (alone s) }

-- whether an agent has begun
abbrev pub has_begun : Memo → Bool
has_begun m = is_some (last_agent m.agents)

-- what the post knows of its seat's memo: whether an agent has begun, and that none has died but the one that fell
pub record PostKnows (begun fallen : Bool) (m : Memo) : Type 0 where
  pub some : has_begun m ≡ begun
  pub whole : fell_by (last_agent m.agents) ≡ false
  pub acting : fallen ≡ true → acts m ≡ true

-- the token is of the identity c, one of a state that holds
pub record IsPosted (t : Token) (c : ℕ) : Type 0 where
  pub named : t.account.who ≡ c
  pub below : c < t.of.start.geometry.clients
  pub stood : Stood t.of.start t.account
