-- reference words of blocks, and the latches under which they are set and read
use Rattle.std.specs.Prelude.{◌≡◌, ◌≢◌, ℕ, ◌-◌, ◌^◌, ◌<◌, ◌≤◌, true, if◌then◌else◌, Option, None, Some, Result, MatchResult}
use Rattle.shm_graph.specs.declared.spot.Spot.TheVariants.{Body}
use Rattle.shm_count.specs.Tear.Memos.{Knows}
use Rattle.shm_ref.specs.declared.answer.SetFault.{SetFault}
use Rattle.shm_ref.specs.declared.answer.SetFault.TheVariants as set
use Rattle.shm_pool.specs.declared.reply.Reply.{Reply, TheVariants.{Died, Done}}
use Rattle.lojarnek.specs.declared.error.Error.{Error, TheVariants.{CountFull, EraSpent, NoSuchWord, NotAuthor}}
use Rattle.lojarnek.specs.declared.error.Bound.TheVariants.{Reference}
use Rattle.lojarnek.specs.Blocks.{HasEnded, KeepsRoots, first_of, root_wrong, word_wrong}
use Rattle.lojarnek.specs.{Roots.{IsAtBlocks, IsHolding, IsNamed}, Standing.Acts, Tables.SameClient}
use Rattle.lojarnek.specs.declared.error.Error.TheVariants as error

-- the client knows that reference word j of the block b names the block d, or none where that is 0
abbrev pub KnowsReference : ℕ → ℕ → ℕ → Acts → Type 0
KnowsReference b j d c = Knows c.token.account.memo (Body b j) d

-- Why a call that sets reference word j of the block b to name the block d, or none where that is 0, is refused: the block has no such word, or isn't the client's, or its eras are spent and its roots name what they named, or the count of d is as great as it can be; or the word is set, and the client died before it had given its latch back
abbrev pub WhyNotSet : ℕ → ℕ → ℕ → Error → Acts → Acts → Type 0
WhyNotSet b j d (NoSuchWord i n) c c' = i ≡ j
WhyNotSet b j d (NotAuthor a) c c' = Unit {0}
WhyNotSet b j d (EraSpent e) c c' = (2 ^ 47 - 4 < e) × KeepsRoots c c'
WhyNotSet b j d (CountFull x n) c c' = (x ≡ d) × (d ≢ 0)
WhyNotSet b j d (error.Died true) c c' = KnowsReference b j d c' × KeepsRoots c c'
WhyNotSet b j d e c c' = ⊥

-- what is wrong with setting reference word j of the block that root k names to the one that root d names, which is tested of a client that lives
abbrev pub set_wrong : Acts → ℕ → ℕ → ℕ → Option Error
set_wrong c k j d = first_of (word_wrong 16 Reference c k j) (if c.token.dead then None else root_wrong c d)

-- ---- latches

-- the client holds the latch of a, and knows what it knew; or it died
abbrev pub HasHeld : ℕ → Acts → Acts → Reply (Unit {0}) → Type 0
HasHeld a c c' (Done u) = SameClient c c' × IsHolding a c'.token × KeepsRoots c c' × (c'.token.account.memo.known ≡ c.token.account.memo.known)
HasHeld a c c' Died = HasEnded c c'

-- where the latch was its own one, the client knows what it knew of reference words of blocks that roots name
abbrev pub KeepsReferences : Acts → Acts → Type 0
KeepsReferences c c' = (b j d : ℕ) → IsNamed b c.token → c.token.account.memo.latch ≡ Some c.token.account.who → KnowsReference b j d c → KnowsReference b j d c'

-- it gave its latch back, or died in that
abbrev pub HasGiven : Acts → Acts → Reply (Unit {0}) → Type 0
HasGiven c c' (Done u) = SameClient c c' × IsAtBlocks c'.token × KeepsRoots c c' × KeepsReferences c c'
HasGiven c c' Died = HasEnded c c' × KeepsRoots c c' × KeepsReferences c c'

-- ---- a word that is set under the own latch

-- why it wasn't set
abbrev pub WhyUnset : ℕ → ℕ → ℕ → SetFault → Type 0
WhyUnset c j d (set.NotAuthor a) = a ≢ c
WhyUnset c j d (set.NoSuchRef n) = n ≤ j
WhyUnset c j d set.NotHeld = ⊥
WhyUnset c j d (set.EraSpent e) = 2 ^ 47 - 4 < e
WhyUnset c j d (set.CountFull b n) = (b ≡ d) × (d ≢ 0) × (n ≡ 1023)

abbrev pub HasSet : ℕ → ℕ → ℕ → Acts → Acts → Reply (Result (Unit {0}) SetFault) → Type 0
HasSet b j d c c' (Done r) =
    SameClient c c' × IsHolding c.token.account.who c'.token × KeepsRoots c c'
    × MatchResult r (λ u. KnowsReference b j d c') (WhyUnset c.token.account.who j d)
HasSet b j d c c' Died = HasEnded c c'
