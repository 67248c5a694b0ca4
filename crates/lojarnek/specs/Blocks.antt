-- calls on blocks in the words of roots
use Rattle.std.specs.Prelude.{◌≡◌, ◌≢◌, ℕ, ◌+◌, ◌<◌, ◌≤◌, ◌⊎◌, ◌==◌, true, false, nat_le, if◌then◌else◌, List, length, slice_index, Option, Some, None, Result, MatchResult}
use Rattle.shm_words.specs.Tags.{tag_plain, tag_refs}
use Rattle.shm_graph.specs.{declared.spot.Spot.TheVariants.{Body, Tag, Tail}, Core.core, Views.own_word}
use Rattle.shm_count.specs.{Refusing.ReadsCount, Tear.Memos.Knows}
use Rattle.shm_table.specs.Staying.{IsSpent}
use Rattle.shm_pool.specs.declared.reply.Reply.{Reply}
use Rattle.shm_pool.specs.declared.reply.Reply.TheVariants as reply
use Rattle.lojarnek.specs.declared.error.Bound.{Bound, TheVariants.{Plain, Plains, Reference, References, Root}}
use Rattle.lojarnek.specs.declared.error.Error.{Error}
use Rattle.lojarnek.specs.declared.error.Error.TheVariants.{CountFull, Died, EmptyRoot, EraSpent, Full, NoSuchClient, NoSuchWord, NotAuthor, OutOfRange, QueueFull, RootsFull, ToItself, WrongAuthor, WrongKind}
use Rattle.lojarnek.specs.{Refusing.is_death, Roots.{IsAtBlocks, KnowsRoots, account_root}}
use Rattle.lojarnek.specs.{Standing.{Acts, IsReadyForCall}, Tables.{IsDeadNow, SameClient, unknown_of}}

-- ---- roots

-- the block that root k of the client names, and 0 where it names none
abbrev pub names : Acts → ℕ → ℕ
names c k = account_root c.token.account k

-- each root names what it named
abbrev pub KeepsRoots : Acts → Acts → Type 0
KeepsRoots c c' = (k : ℕ) → names c' k ≡ names c k

-- each other root names what it named
abbrev pub OnlyRoot : ℕ → Acts → Acts → Type 0
OnlyRoot k c c' = (j : ℕ) → j ≢ k → names c' j ≡ names c j

-- each root that named a block names it
abbrev pub KeepsNamed : Acts → Acts → Type 0
KeepsNamed c c' = (k : ℕ) → names c k ≢ 0 → names c' k ≡ names c k

-- root k, the least one that was empty, names the block b, and the others what they named
pub record IsRooted (k b : ℕ) (c c' : Acts) : Type 0 where
  pub low : k < 16
  pub empty : names c k ≡ 0
  pub least : (j : ℕ) → j < k → names c j ≢ 0
  pub named : names c' k ≡ b
  pub others : OnlyRoot k c c'

-- ---- words

-- the client knows that v is plain word j of the block b: it knows the block's tag, which tells that there is such a word, and the word
abbrev pub KnowsWord : ℕ → ℕ → ℕ → Acts → Type 0
KnowsWord b j v c = (t : ℕ) × Knows c.token.account.memo (Tag b) t × (j < tag_plain c.token.of.start.geometry.wide t) × Knows c.token.account.memo (Body b (tag_refs c.token.of.start.geometry.wide t + j)) v

-- v is plain word j of the block b, as the client knew it if it did; it knows it now
pub record IsWord (b j v : ℕ) (c c' : Acts) : Type 0 where
  pub as_known : (x : ℕ) → KnowsWord b j x c → v ≡ x
  pub known : KnowsWord b j v c'

-- root k, the least one that was empty, names a block with these plain words, and the other roots what they named
pub record IsMade (xs : List ℕ) (k : ℕ) (c c' : Acts) : Type 0 where
  pub rooted : IsRooted k (names c' k) c c'
  pub some : names c' k ≢ 0
  pub words : (j : ℕ) → j < length xs → KnowsWord (names c' k) j (slice_index xs j) c'

-- ---- what a call tests before its first word step, in this order

-- what is wrong first
abbrev pub first_of : Option Error → Option Error → Option Error
first_of (Some e) w = Some e
first_of None w = w

-- a call on blocks: the pool is for them
abbrev pub kind_wrong : Acts → Option Error
kind_wrong c = if c.token.of.start.tables then Some WrongKind else None

-- a number that has to be below a limit
abbrev pub limit_wrong : ℕ → Bound → ℕ → Option Error
limit_wrong limit bound n = if nat_le limit n then Some (OutOfRange n bound) else None

-- a root of a client that lives: it names a block
abbrev pub empty_wrong : Acts → ℕ → Option Error
empty_wrong c k = if c.token.dead then None else (if names c k == 0 then Some (EmptyRoot k) else None)

-- a call on the block that root k names
abbrev pub root_wrong : Acts → ℕ → Option Error
root_wrong c k = first_of (kind_wrong c) (first_of (limit_wrong 16 Root k) (empty_wrong c k))

-- a call on word j of that block, which may have so many words of its kind
abbrev pub word_wrong : ℕ → Bound → Acts → ℕ → ℕ → Option Error
word_wrong limit bound c k j = first_of (limit_wrong limit bound j) (root_wrong c k)

-- an allocation
abbrev pub alloc_wrong : Acts → ℕ → ℕ → Option Error
alloc_wrong c refs n = first_of (kind_wrong c) (first_of (limit_wrong 17 References refs) (limit_wrong 9 Plains n))

-- another client
abbrev pub other_wrong : Acts → ℕ → Option Error
other_wrong c a = if a == c.token.account.who then Some (ToItself a) else unknown_of c a

-- a call on the queues to and from client a
abbrev pub queue_wrong : Acts → ℕ → Option Error
queue_wrong c a = first_of (kind_wrong c) (other_wrong c a)

-- ---- refusals

-- the number is beyond the bound
abbrev pub IsBeyond : ℕ → Bound → Type 0
IsBeyond n Root = 16 ≤ n
IsBeyond n Reference = 16 ≤ n
IsBeyond n Plain = 8 ≤ n
IsBeyond n References = 16 < n
IsBeyond n Plains = 8 < n
IsBeyond n x = ⊥

-- why a call on blocks is refused before its first word step
abbrev pub IsWrongOn : Acts → Error → Type 0
IsWrongOn c WrongKind = c.token.of.start.tables ≡ true
IsWrongOn c (OutOfRange n x) = IsBeyond n x
IsWrongOn c (EmptyRoot k) = (c.token.dead ≡ false) × (names c k ≡ 0)
IsWrongOn c (NoSuchClient a n) = (n ≡ c.token.of.start.geometry.clients) × (n ≤ a)
IsWrongOn c (ToItself a) = a ≡ c.token.account.who
IsWrongOn c (Died d) = (c.token.dead ≡ true) × (d ≡ false)
IsWrongOn c e = ⊥

-- e is what is wrong with a call, or nothing is and the client is dead
pub record IsRefusedFirst (w : Option Error) (c : Acts) (e : Error) : Type 0 where
  pub is : (w ≡ Some e) ⊎ ((w ≡ None) × (c.token.dead ≡ true) × (e ≡ Died false))
  pub why : IsWrongOn c e

-- Why a call is refused that takes references away: the own era e leaves no room for a count step, and `left` says what stays of the roots
abbrev pub Spent : (Acts → Acts → Type 0) → Error → Acts → Acts → Type 0
Spent left (EraSpent e) c c' = IsSpent c.token.account.who e c'.token.account.memo × left c c'
Spent left e c c' = ⊥

-- why an allocation is: that, or all roots name blocks, or no block is free
abbrev pub WhyNotMade : Error → Acts → Acts → Type 0
WhyNotMade RootsFull c c' = Unit {0}
WhyNotMade (Full s b) c c' = Unit {0}
WhyNotMade e c c' = Spent KeepsRoots e c c'

-- Why the block b gets no other root: that, or all roots name blocks, or a header of the block was read that shows its count to be as great as it can be
abbrev pub WhyNotShared : ℕ → Error → Acts → Acts → Type 0
WhyNotShared b RootsFull c c' = Unit {0}
WhyNotShared b (CountFull d n) c c' = (d ≡ b) × ReadsCount d n c'.token.account.memo.call
WhyNotShared b e c c' = Spent KeepsRoots e c c'

-- why plain word j isn't read: the block has none
abbrev pub WhyNotRead : ℕ → Error → Acts → Acts → Type 0
WhyNotRead j (NoSuchWord i n) c c' = i ≡ j
WhyNotRead j e c c' = ⊥

-- the client lives, and its roots name what they named
pub record StandsOn (c c' : Acts) : Type 0 where
  pub alive : c'.token.dead ≡ false
  pub roots : KeepsRoots c c'

-- Why a call on blocks was refused. Refused before its first word step it changed nothing; where the client died in it, and what was asked for is done, `why` says what that is; after any other refusal but for want of eras the client lives, and its roots name what they named; `why` says which refusals the call has, and what else is so
abbrev pub Denies : (Error → Acts → Acts → Type 0) → Acts → Acts → Error → Type 0
Denies why c c' (Died true) = IsDeadNow c c' × why (Died true) c c'
Denies why c c' (Died false) = IsDeadNow c c'
Denies why c c' (EraSpent e) = why (EraSpent e) c c' × (c'.token.dead ≡ false)
Denies why c c' RootsFull = ((k : ℕ) → k < 16 → names c k ≢ 0) × StandsOn c c' × why RootsFull c c'
Denies why c c' (Full s b) = ((k : ℕ) × (k < 16) × (names c k ≡ 0)) × StandsOn c c' × why (Full s b) c c'
Denies why c c' (CountFull b n) = (n ≡ 1023) × StandsOn c c' × why (CountFull b n) c c'
Denies why c c' (QueueFull to) = (8 ≤ own_word c.token.account.memo.own (Tail c.token.account.who to)) × StandsOn c c' × why (QueueFull to) c c'
Denies why c c' (NoSuchWord j n) = (n ≤ j) × StandsOn c c' × why (NoSuchWord j n) c c'
Denies why c c' (NotAuthor a) = (a ≢ c.token.account.who) × StandsOn c c' × why (NotAuthor a) c c'
Denies why c c' (WrongAuthor a) = StandsOn c c' × why (WrongAuthor a) c c'
Denies why c c' e = IsWrongOn c e × (c' ≡ c)

-- ---- a call of a client that lived

-- It is the same client and ready for a call, and these are what its roots name. It is dead where it was answered so; `did` holds of any other answer, or it was refused
pub record HasCome {T : Type 0} (did : T → Type 0) (why : Error → Acts → Acts → Type 0) (c c' : Acts) (bs : List ℕ) (r : Result T Error) : Type 0 where
  pub same : SameClient c c'
  pub ready : IsReadyForCall c'.token
  pub knows : KnowsRoots c'.token bs
  pub dead : c'.token.dead ≡ is_death r
  pub done : MatchResult r did (Denies why c c')

-- it is the same client, which died: it is dead, and its budget is used up
abbrev pub HasEnded : Acts → Acts → Type 0
HasEnded c c' = SameClient c c' × IsReadyForCall c'.token × (c'.token.dead ≡ true) × (c'.left ≡ 0)

-- all roots were read again: the client lives, its memo has the core that it had, and these are what its roots name; or it died
abbrev pub HasLearnt : Acts → Acts → List ℕ → Reply (Unit {0}) → Type 0
HasLearnt c c' bs (reply.Done u) = SameClient c c' × IsAtBlocks c'.token × KnowsRoots c'.token bs × (core c'.token.account.memo ≡ core c.token.account.memo)
HasLearnt c c' bs reply.Died = HasEnded c c'

-- ---- what was tested

-- the block that root k names, of a client that lives, in a pool for blocks
pub record IsBlockOf (k b : ℕ) (c : Acts) : Type 0 where
  pub at : IsAtBlocks c.token
  pub low : k < 16
  pub some : b ≢ 0
  pub named : names c k ≡ b
