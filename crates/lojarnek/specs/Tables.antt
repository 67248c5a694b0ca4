-- tables of clients in the words of maps
use Rattle.std.specs.Prelude.{◌≡◌, ◌≢◌, ℕ, ◌<◌, ◌≤◌, ◌==◌, Bool, true, false, nat_le, if◌then◌else◌, Option, Some, None, IfSome, Result, Ok, Err, IfOk}
use Rattle.shm_graph.specs.{declared.{run.Account.Account, spot.Spot.TheVariants.Tail}, Views.own_word}
use Rattle.shm_script.specs.declared.log.Answer.{Answer}
use Rattle.shm_script.specs.declared.log.Answer.TheVariants as answer
use Rattle.shm_count.specs.Roots.{root_word}
use Rattle.shm_table.specs.Staying.{IsSpent}
use Rattle.lojarnek.specs.declared.error.Error.{Error}
use Rattle.lojarnek.specs.declared.error.Error.TheVariants.{CountFull, Died, EraSpent, Full, NoSuchClient, QueueFull, RootsFull, ToItself, WrongKind}
use Rattle.lojarnek.specs.Standing.{Acts, KeepsMap, account_map}

-- the key has this number
abbrev pub HasNumber : ℕ → ℕ → Account → Type 0
HasNumber key n e = (b : ℕ) × (account_map e key ≡ Some (n, b))

-- the key has none
abbrev pub HasNone : ℕ → Account → Type 0
HasNone key e = account_map e key ≡ None

-- no other key changed
abbrev pub OnlyKey : ℕ → Account → Account → Type 0
OnlyKey key e e' = (k : ℕ) → key ≢ k → account_map e' k ≡ account_map e k

-- it is the same client, and its budget didn't grow
pub record SameClient (c c' : Acts) : Type 0 where
  pub of : c'.token.of ≡ c.token.of
  pub who : c'.token.account.who ≡ c.token.account.who
  pub left : c'.left ≤ c.left

-- the client is dead, and where it wasn't before its budget is used up
pub record IsDeadNow (c c' : Acts) : Type 0 where
  pub dead : c'.token.dead ≡ true
  pub spent : c.token.dead ≡ false → c'.left ≡ 0

-- the client lives, and its map is what it was
pub record LivesOn (c c' : Acts) : Type 0 where
  pub alive : c'.token.dead ≡ false
  pub map : KeepsMap c.token.account c'.token.account

-- Why a call was refused. Refused before its first word step it changed nothing; where the client died in it what was asked for is done, or the map is what it was; after any other refusal the client stands
abbrev pub Refuses : (Account → Type 0) → Acts → Acts → Error → Type 0
Refuses done c c' WrongKind = (c.token.of.start.tables ≡ false) × (c' ≡ c)
Refuses done c c' (NoSuchClient a n) = (n ≡ c.token.of.start.geometry.clients) × (n ≤ a) × (c' ≡ c)
Refuses done c c' (ToItself a) = (a ≡ c.token.account.who) × (c' ≡ c)
Refuses done c c' (Died true) = IsDeadNow c c' × done c'.token.account
Refuses done c c' (Died false) = IsDeadNow c c' × KeepsMap c.token.account c'.token.account
Refuses done c c' (EraSpent e) = IsSpent c.token.account.who e c'.token.account.memo × LivesOn c c'
Refuses done c c' RootsFull = ((k : ℕ) × ((j : ℕ) → j < 16 → k ≢ j → root_word c.token.account.who c.token.account.memo j ≢ 0)) × LivesOn c c'
Refuses done c c' (Full s b) = ((k : ℕ) × (k < 16) × (root_word c.token.account.who c.token.account.memo k ≡ 0)) × LivesOn c c'
Refuses done c c' (CountFull b n) = (n ≡ 1023) × LivesOn c c'
Refuses done c c' (QueueFull to) = (8 ≤ own_word c.token.account.memo.own (Tail c.token.account.who to)) × LivesOn c c'
Refuses done c c' e = ⊥

-- ---- what a call tests before its first word step, in this order

-- a number that is no client's
abbrev pub unknown_of : Acts → ℕ → Option Error
unknown_of c a = if nat_le c.token.of.start.geometry.clients a then Some (NoSuchClient a c.token.of.start.geometry.clients) else None

-- a call on the client's own table: the pool is for tables
abbrev pub own_wrong : Acts → Option Error
own_wrong c = if c.token.of.start.tables then None else Some WrongKind

-- a call on the table of client a: and there is such a client
abbrev pub author_wrong : Acts → ℕ → Option Error
author_wrong c a = if c.token.of.start.tables then unknown_of c a else Some WrongKind

-- a call on the queues to and from client a: and it is another one
abbrev pub peer_wrong : Acts → ℕ → Option Error
peer_wrong c a = if c.token.of.start.tables then (if a == c.token.account.who then Some (ToItself a) else unknown_of c a) else Some WrongKind

-- what is wrong is answered, and nothing changed; otherwise a client that was dead answers `Died`, and nothing changed; and where the call was done the client lives
pub record WasTested {A : Type 0} (w : Option Error) (c c' : Acts) (r : Result A Error) : Type 0 where
  pub wrong : IfSome w (λ e. (r ≡ Err e) × (c' ≡ c))
  pub dead : w ≡ None → c.token.dead ≡ true → (r ≡ Err (Died false)) × (c' ≡ c)
  pub lives : IfOk r (λ _. c'.token.dead ≡ false)

-- ---- a command's answer in a caller's words

-- a refusal; of a queue to this client
abbrev pub refusal_of : Answer → ℕ → Error
refusal_of (answer.Full s b) to = Full s b
refusal_of (answer.CountFull b n) to = CountFull b n
refusal_of answer.RootsFull to = RootsFull
refusal_of (answer.EraSpent e) to = EraSpent e
refusal_of a to = QueueFull to

-- whether a number was stored
abbrev pub stored_of : Answer → Result (Unit {0}) Error
stored_of (answer.Stored b) = Ok tt
stored_of a = Err (refusal_of a 0)

-- the number that was found
abbrev pub found_of : Answer → Result (Option ℕ) Error
found_of (answer.Value n b) = Ok (Some n)
found_of answer.Missing = Ok None
found_of (answer.Empty n) = Ok None
found_of a = Err (refusal_of a 0)

-- whether the key was there
abbrev pub there_of : Answer → ℕ → Result Bool Error
there_of answer.Ok to = Ok true
there_of answer.Missing to = Ok false
there_of a to = Err (refusal_of a to)
