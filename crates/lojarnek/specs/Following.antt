-- reference words that are followed
use Rattle.std.specs.Prelude.{◌≡◌, ◌≢◌, ℕ, ◌-◌, ◌^◌, ◌<◌, ◌≤◌, true, List, Option, None, Some, Result, MatchResult, slice_index}
use Rattle.shm_graph.specs.Reach.{is_reached}
use Rattle.shm_pool.specs.declared.reply.Reply.{Reply, TheVariants.{Died, Done}}
use Rattle.lojarnek.specs.declared.error.{Bound.TheVariants.Reference, Error.Error}
use Rattle.lojarnek.specs.declared.error.Error.TheVariants.{CountFull, EraSpent, NoSuchWord, RootsFull, WrongAuthor}
use Rattle.lojarnek.specs.Blocks.{HasEnded, IsRooted, KeepsRoots, first_of, kind_wrong, names, word_wrong}
use Rattle.lojarnek.specs.{Roots.{IsHolding, account_root}, Setting.KnowsReference, Standing.Acts}
use Rattle.lojarnek.specs.Tables.{SameClient, unknown_of}
use Rattle.lojarnek.specs.declared.error.Error.TheVariants as error

-- root k, the least one that was empty, names the block that reference word j of the block b names; or the word names none. The word is what the client knew of it, if it did
abbrev pub Follows : ℕ → ℕ → Option ℕ → Acts → Acts → Type 0
Follows b j (Some k) c c' = IsRooted k (names c' k) c c' × (names c' k ≢ 0) × ((d : ℕ) → KnowsReference b j d c → names c' k ≡ d)
Follows b j None c c' = KeepsRoots c c' × ((d : ℕ) → KnowsReference b j d c → d ≡ 0)

-- what is wrong with following reference word j of the block that root k names, which client a made
abbrev pub follow_wrong : Acts → ℕ → ℕ → ℕ → Option Error
follow_wrong c a k j = first_of (kind_wrong c) (first_of (unknown_of c a) (word_wrong 16 Reference c k j))

-- Why a call that follows reference word j of the block b, which client a made, is refused: the block has no such word, or the client isn't its author, or the eras are spent and the roots name what they named, or all of them name blocks, or the count of the block that it names is as great as it can be; or the word is followed, and the client died before it had given the latch back
abbrev pub WhyNotFollowed : ℕ → ℕ → ℕ → Error → Acts → Acts → Type 0
WhyNotFollowed a b j (NoSuchWord i n) c c' = i ≡ j
WhyNotFollowed a b j (WrongAuthor x) c c' = x ≡ a
WhyNotFollowed a b j (EraSpent e) c c' = (2 ^ 47 - 4 < e) × KeepsRoots c c'
WhyNotFollowed a b j RootsFull c c' = Unit {0}
WhyNotFollowed a b j (CountFull x n) c c' = Unit {0}
WhyNotFollowed a b j (error.Died true) c c' = (o : Option ℕ) × Follows b j o c c'
WhyNotFollowed a b j e c c' = ⊥

-- why a block got no root under a latch
abbrev pub WhyUnrooted : Acts → Error → Type 0
WhyUnrooted c (EraSpent e) = 2 ^ 47 - 4 < e
WhyUnrooted c RootsFull = (k : ℕ) → k < 16 → names c k ≢ 0
WhyUnrooted c (CountFull b n) = n ≡ 1023
WhyUnrooted c e = ⊥

-- and why reference word j of a block wasn't followed under the latch of a
abbrev pub WhyUnfollowed : ℕ → ℕ → Acts → Error → Type 0
WhyUnfollowed a j c (NoSuchWord i n) = (n ≤ i) × (i ≡ j)
WhyUnfollowed a j c (WrongAuthor x) = x ≡ a
WhyUnfollowed a j c e = WhyUnrooted c e

-- While it holds the latch of a, the client looked at reference word j of the block b, and the block d that it names is in reach, and what the client knew of the word if it did; or it was refused, or it died
abbrev pub HasLooked : ℕ → ℕ → ℕ → Acts → Acts → Reply (Result ℕ Error) → Type 0
HasLooked a b j c c' (Done r) =
    SameClient c c' × IsHolding a c'.token × KeepsRoots c c'
    × MatchResult r (λ d. (d ≢ 0 → is_reached c'.token.account.who c'.token.account.memo d ≡ true) × ((x : ℕ) → KnowsReference b j x c → d ≡ x)) (WhyUnfollowed a j c)
HasLooked a b j c c' Died = HasEnded c c'

-- so it gave the block b a root; or it was refused, or it died
abbrev pub HasRooted : ℕ → ℕ → Acts → Acts → List ℕ → Reply (Result ℕ Error) → Type 0
HasRooted a b c c' bs (Done r) =
    SameClient c c' × IsHolding a c'.token × ((k : ℕ) → k < 16 → account_root c'.token.account k ≡ slice_index bs k)
    × MatchResult r (λ k. IsRooted k b c c') (λ e. WhyUnrooted c e × KeepsRoots c c')
HasRooted a b c c' bs Died = HasEnded c c'

-- While it holds the latch of a, the client followed reference word j of the block b, or was refused, and these are what its roots name; or it died
abbrev pub HasFollowed : ℕ → ℕ → ℕ → Acts → Acts → List ℕ → Reply (Result (Option ℕ) Error) → Type 0
HasFollowed a b j c c' bs (Done r) =
    SameClient c c' × IsHolding a c'.token × ((k : ℕ) → k < 16 → account_root c'.token.account k ≡ slice_index bs k)
    × MatchResult r (λ o. Follows b j o c c') (λ e. WhyUnfollowed a j c e × KeepsRoots c c')
HasFollowed a b j c c' bs Died = HasEnded c c'
