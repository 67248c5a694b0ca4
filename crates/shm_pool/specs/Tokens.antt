-- pools and tokens as contracts see them
use Rattle.std.specs.Prelude.{◌≡◌, zero, suc, ℕ, ◌<◌, ◌==◌, ◌&&◌, if◌then◌else◌, ◌⊎◌, Bool, true, false, List, [], ◌∷◌, Option}
use Rattle.atomic_table.specs.{Seated.TableId, declared.shared.Seat.Seat}
use Rattle.shm_words.specs.Layout.{GeometryFits}
use Rattle.shm_graph.specs.declared.{run.{Start.Start, Account.Account, Move.Move}, ask.Me.Me, memo.Memo.Memo}
use Rattle.shm_graph.specs.declared.memo.{Status.TheVariants.{New, Live, Gone}, Kind.TheVariants.{Client, Recoverer}}
use Rattle.shm_graph.specs.{Agents.{acts, is_gone, recovers}, Clean.IsClean, Spots.see, Laws.Control}
use Rattle.shm_graph.specs.Runs.{Held, Leads, state, first_state, first_account, account_at, account_died, account_entered, Stood}
use Rattle.shm_script.specs.declared.log.Answer.{Answer}
use Rattle.shm_pool.specs.Rules.{alone, IsAlone, no_account}

-- which pool it is: its table, and what it was made of
pub record Its : Type 0 where
  pub table : TableId
  pub start : Start

-- a token of one identity
pub record Token : Type 0 where
  pub of : Its
  pub account : Account

-- a token of a client, whether a call of it has died, and what that showed of its answer, where it was a command
pub record Acting : Type 0 where
  pub of : Its
  pub account : Account
  pub dead : Bool
  pub effect : Option Answer

-- the pool of this table
abbrev pub its : TableId → Start → Its
its t s = record { table = t; start = s }

-- the identity is new or gone
abbrev pub IsOut : Memo → Type 0
IsOut m = (m.status ≡ New) ⊎ (m.status ≡ Gone)

-- nobody has joined it or it is gone, and no agent acts
abbrev pub IsStill : Memo → Type 0
IsStill m = IsOut m × (acts m ≡ false)

-- a corpse's agent acts in its memo until the next one begins; where a join began none, nobody acts and the identity is new or gone
abbrev pub IsFallen : Bool → Memo → Type 0
IsFallen true m = acts m ≡ true
IsFallen false m = IsStill m

-- whether a client has left: its last machine is finished, and the identity is gone
abbrev pub has_left : Memo → Bool
has_left m = is_gone m.status && m.over

-- the agent is a client's and acts until it has left; where a call of it has died it hasn't left
pub record IsServing (dead : Bool) (m : Memo) : Type 0 where
  pub kind : recovers m ≡ false
  pub acts : acts m ≡ (if has_left m then false else true)
  pub there : dead ≡ true → has_left m ≡ false

-- the memo of an identity that has joined, but for its call and its agents
abbrev pub live : Memo → Memo
live m = record m { status = Live }

-- an account of which an agent acts: where a join began none, a client has begun
abbrev pub begun_account : Account → Account
begun_account e = if acts e.memo then e else account_entered Client e

-- the account of a corpse where a recoverer has begun
abbrev pub recovering_account : Account → Account
recovering_account e = account_entered Recoverer (account_died (begun_account e))

-- the token of a seat
abbrev pub token_of : Start → Seat (Unit {0}) (List Account) → Token
token_of start s = record { of = its s.table_id start; account = alone s }

-- and that of a client
abbrev pub acting_of : Start → Bool → Option Answer → Seat (Unit {0}) (List Account) → Acting
acting_of start dead effect s = record { of = its s.table_id start; account = alone s; dead = dead; effect = effect }

-- the seat answers for the identity c alone, and its account is one of a Held state of the pool
pub record IsSeated (start : Start) (c : ℕ) (s : Seat (Unit {0}) (List Account)) : Type 0 where
  pub is_alone : IsAlone s
  pub who : c ≡ (alone s).who
  pub below : c < start.geometry.clients
  pub fits : GeometryFits start.geometry
  pub stood : Stood start (alone s)

-- the identity of an account, in its pool
abbrev pub me_of : Its → Account → Me
me_of p r = record { geometry = p.start.geometry; who = r.who }

-- the machine is of this identity of this pool, whose client hasn't left, and not finished; before its first step the client's last one is finished
abbrev pub IsFor : {M A : Type 0} → Its → Account → Control M A → M → Type 0
IsFor p r k m = (k.me m ≡ me_of p r) × (k.finished m ≡ false) × (k.fresh m ≡ true → r.memo.over ≡ true) × (has_left r.memo ≡ false)

-- the token of identity c as it is made
abbrev pub token_first : Its → ℕ → Token
token_first p c = record { of = p; account = first_account p.start c }

-- the tokens of n identities from c on, as they are made
abbrev pub first_tokens : Its → ℕ → ℕ → List Token
first_tokens p c zero = []
first_tokens p c (suc n) = token_first p c ∷ first_tokens p (suc c) n

-- all tokens are of this pool
abbrev pub AllOf : Its → List Token → Type 0
AllOf p [] = Unit {0}
AllOf p (t ∷ ts) = (t.of ≡ p) × AllOf p ts

-- the accounts of tokens
abbrev pub accounts_of : List Token → List Account
accounts_of [] = []
accounts_of (t ∷ ts) = t.account ∷ accounts_of ts

-- no agent acts for any of these
abbrev pub AllStill : List Account → Type 0
AllStill [] = Unit {0}
AllStill (r ∷ rs) = IsStill r.memo × AllStill rs

-- the account of an identity in a list in any order
abbrev pub find : ℕ → List Account → Account
find c [] = no_account
find c (r ∷ rs) = if r.who == c then r else find c rs

-- the accounts of n identities from c on, in their order
abbrev pub by_who : ℕ → ℕ → List Account → List Account
by_who c zero rs = []
by_who c (suc n) rs = find c rs ∷ by_who (suc c) n rs

-- the first view
abbrev pub head_view : List (List Account) → List Account
head_view [] = []
head_view (v ∷ vs) = v

-- a closed pool
pub record End : Type 0 where
  pub start : Start
  pub words : List ℕ
  pub accounts : List Account

-- the closed pool with these words and accounts
abbrev pub end_of : Start → List ℕ → List Account → End
end_of s ws rs = record { start = s; words = ws; accounts = rs }

-- words and accounts are the last state of a run, no identity has an agent, and the words are clean
pub record IsClosedRun (s : Start) (ws : List ℕ) (rs : List Account) : Type 0 where
  pub turns : List Move
  pub held : Held s.geometry ws rs
  pub leads : Leads s.geometry (first_state s) turns (state ws rs)
  pub still : (c : ℕ) → c < s.geometry.clients → IsStill (account_at rs c).memo
  pub clean : IsClean s.geometry (see s.geometry ws)
