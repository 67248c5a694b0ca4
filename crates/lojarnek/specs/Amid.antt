-- a client in the middle of a call, some of whose word steps it has made
use Rattle.std.specs.Prelude.{◌≡◌, ℕ, false, List}
use Rattle.shm_graph.specs.{declared.{ask.Turn.{Turn, TheVariants.{More, Done, Died}}, memo.Memo.Memo}, Asks.Trail}
use Rattle.shm_graph.specs.{Events.Event, Laws.Control, Runs.Stood, Whole.{fits_now, gives_now}}
use Rattle.shm_pool.specs.{Calls.{Drives, IsBetween, IsDriven, Ongoing, StillFits, shown}, Doing.HasDone}
use Rattle.shm_pool.specs.Tokens.{IsFor, me_of}
use Rattle.shm_pool.specs.declared.reply.Reply.TheVariants as reply
use Rattle.lojarnek.specs.Standing.{Acts}

module _ {M A : Type 0} (k : Control M A) (fits : M → Memo → Memo → Trail → Type 0) (gives : M → Memo → Memo → Trail → A → Type 0) (may : M → Memo → Type 0) where
  -- The client was c, between two calls, when it began the machine n. Some word steps made c' of it and m of the machine, which hasn't answered
  pub record IsAmid (n m : M) (c c' : Acts) : Type 0 where
    pub lived : c.token.dead ≡ false
    pub alive : c'.token.dead ≡ false
    pub same : (c'.token.of ≡ c.token.of) × (c'.token.account.who ≡ c.token.account.who)
    pub effect : c'.token.effect ≡ c.token.effect
    pub stood : Stood c.token.of.start c.token.account
    pub between : IsBetween c.token.account
    pub me : k.me n ≡ me_of c.token.of c.token.account
    pub might : may n c.token.account.memo
    pub asks : IsFor c'.token.of c'.token.account k m
    pub suits : fits_now k fits m c.token.account.memo c'.token.account.memo
    pub leads : (r : Memo) (a : A) → gives_now gives m c.token.account.memo r a → gives_now gives n c.token.account.memo r a
    pub so_far : (o : Ongoing (shown k n) c.token.account (shown k m) c'.token.account c.left c'.left) × IsDriven k fits n m c.token.account c'.token.account o.steps

  -- It died in the call: that was cut off, and the machine is m
  pub record IsCutOff (n m : M) (c c' : Acts) : Type 0 where
    pub drove : Drives k fits n m c.token.account c'.token.account false c.left c'.left
    pub still : StillFits k (fits_now k fits) m c.token.account.memo c'.token.account.memo

  module _ (does : M → ℕ → Event) (leaves : M → Memo → Memo → Trail → List Event → A → Type 0) (ends : M → A → Type 0) where
    -- some word steps more made c' of it: it goes on, or has answered, or died
    abbrev pub HasGone : M → M → Acts → Acts → Turn A → Type 0
    HasGone n m c c' More = IsAmid n m c c'
    HasGone n m c c' (Done a) = HasDone k does leaves ends n c.token c'.token c.left c'.left (reply.Done a) × (c'.token.effect ≡ c.token.effect)
    HasGone n m c c' Died = HasDone k does leaves ends n c.token c'.token c.left c'.left reply.Died × IsCutOff n m c c' × (c'.token.effect ≡ c.token.effect)
