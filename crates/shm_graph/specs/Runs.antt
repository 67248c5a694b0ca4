-- lists of words and of accounts, and the runs over them
use Rattle.std.specs.Prelude.{◌≡◌, ℕ, zero, suc, ◌-◌, ◌^◌, ◌<◌, ◌⊎◌, ◌==◌, Bool, true, false, if◌then◌else◌, Option, Some, None, List, [], ◌∷◌, ◌++◌, length, slice_index, slice_index_or, slice_set, replicate}
use Rattle.shm_words.specs.{declared.{geometry.Geometry.Geometry, place.Place.Place}, Layout.{place_at, total_of}}
use Rattle.shm_words.specs.declared.place.Place.TheVariants as place
use Rattle.shm_graph.specs.declared.{spot.Spot.TheVariants.Era, memo.Status.TheVariants.{New, Gone}}
use Rattle.shm_graph.specs.declared.memo.{Op.TheVariants.Nothing, Kind.{Kind, TheVariants.{Client, Recoverer}}}
use Rattle.shm_graph.specs.declared.memo.{Fate.{Fate, TheVariants.Died}, Agent.Agent, Memo.Memo, Step.Step, Seen.Seen}
use Rattle.shm_graph.specs.declared.{table.Part.{Part, TheVariants.{Loose, Table}}, run.LoggedLine.LoggedLine}
use Rattle.shm_graph.specs.declared.run.{Start.Start, Account.Account, Move.{Move, TheVariants.{Word, Dies, Begins}}}
use Rattle.shm_graph.specs.{Spots.{see, spot_at, classes_in}, Views.view, Held.HeldAt}
use Rattle.shm_graph.specs.{Asks.{at_of, seen_of, words_set, call_after}, Changes.{memo_after, asked_spot}}
use Rattle.shm_graph.specs.{Agents.{died, entered, acts, last_agent}, Laws.{Stepped, event_on}}

-- ---- accounts

-- the line and the trail of a machine that is finished; a machine with an empty line isn't told
abbrev pub told_by : List ℕ → List Seen → Bool → List LoggedLine → List LoggedLine
told_by [] trail finished told = told
told_by (x ∷ xs) trail finished told = told ++ record { line = x ∷ xs; trail = trail; finished = finished } ∷ []

-- the running line of a dead agent is told by the first step of the next one
abbrev pub told_left : Bool → Account → List LoggedLine
told_left fresh e = if fresh then told_by e.running e.memo.call false e.told else e.told

-- a line joins those of the last agent
abbrev pub begun_by : List ℕ → List (List (List ℕ)) → List (List (List ℕ))
begun_by line [] = []
begun_by line (b ∷ []) = (b ++ line ∷ []) ∷ []
begun_by line (b ∷ d ∷ others) = b ∷ begun_by line (d ∷ others)

-- the account of the stepping identity after its step
abbrev pub account_after : Account → Step → Account
account_after e t =
    record {
      who = e.who;
      memo = memo_after e.memo t;
      told = if t.ends then told_by t.line (call_after t.fresh e.memo.call t.ask t.seen) true (told_left t.fresh e) else told_left t.fresh e;
      begun = if t.fresh then begun_by t.line e.begun else e.begun;
      running = if t.ends then [] else t.line;
      turns = e.turns ++ Word t ∷ [];
    }

-- the account after the death of an agent, and after the beginning of one
abbrev pub account_died : Account → Account
account_died e = record e { memo = died e.memo; turns = e.turns ++ Dies e.who ∷ [] }

abbrev pub account_entered : Kind → Account → Account
account_entered k e = record e { memo = entered k e.memo; begun = e.begun ++ [] ∷ []; turns = e.turns ++ Begins e.who k ∷ [] }

-- the account of who takes a turn, after it
abbrev pub account_by : Account → Move → Account
account_by e (Word t) = account_after e t
account_by e (Dies c) = account_died e
account_by e (Begins c k) = account_entered k e

-- and after these turns
abbrev pub account_along : Account → List Move → Account
account_along e [] = e
account_along e (m ∷ ms) = account_along (account_by e m) ms

-- ---- the first state

-- an identity that nobody has joined: its words are 0, but its own era
abbrev pub first_part : Bool → Part
first_part false = Loose
first_part true = Table (replicate 16 [])

abbrev pub first_memo : Start → ℕ → Memo
first_memo s c =
    record {
      status = New;
      own = record { spot = Era c c; value = s.first_era } ∷ [];
      op = Nothing;
      latch = None;
      looks = [];
      making = None;
      owned = [];
      dying = [];
      sent = replicate s.geometry.clients [];
      received = replicate s.geometry.clients [];
      unsent = replicate s.geometry.clients 0;
      untaken = replicate s.geometry.clients 0;
      part = first_part s.tables;
      values = [];
      made = [];
      call = [];
      over = true;
      facts = [];
      zeros = [];
      test = None;
      known = [];
      agents = [];
    }

abbrev pub first_account : Start → ℕ → Account
first_account s c = record { who = c; memo = first_memo s c; told = []; begun = []; running = []; turns = [] }

-- the accounts of n identities from c on
abbrev pub accounts_from : Start → ℕ → ℕ → List Account
accounts_from s c zero = []
accounts_from s c (suc n) = first_account s c ∷ accounts_from s (suc c) n

-- all words are 0, but the own eras
abbrev pub first_word : ℕ → Place → ℕ
first_word era (place.Era i j) = if i == j then era else 0
first_word era _ = 0

-- the words from an address on, in their order
abbrev pub words_from : (ℕ → ℕ) → ℕ → ℕ → List ℕ
words_from f a zero = []
words_from f a (suc n) = f a ∷ words_from f (suc a) n

abbrev pub first_words : Start → List ℕ
first_words s = words_from (λ a. first_word s.first_era (place_at s.geometry a)) 0 (total_of s.geometry)

-- an identity may begin with eras 1 to 2^47 - 2
abbrev pub EraFits : ℕ → Type 0
EraFits era = (0 < era) × (era < 2 ^ 47 - 1)

-- ---- states

abbrev pub account_at : List Account → ℕ → Account
account_at es c = slice_index_or es c (first_account (record { geometry = record { clients = 0; segments = 0; wide = false }; first_era = 0; tables = false }) 0)

-- the memos by identity
abbrev pub memos_of : List Account → ℕ → Memo
memos_of es c = (account_at es c).memo

-- the invariant that stands between any two word steps, over lists
pub record Held (g : Geometry) (ws : List ℕ) (es : List Account) : Type 0 where
  pub words : length ws ≡ total_of g
  pub accounts : length es ≡ g.clients
  pub at : HeldAt g (see g ws) (view (memos_of es))

pub record State : Type 0 where
  pub words : List ℕ
  pub accounts : List Account

abbrev pub state : List ℕ → List Account → State
state ws es = record { words = ws; accounts = es }

abbrev pub first_state : Start → State
first_state s = state (first_words s) (accounts_from s 0 s.geometry.clients)

-- ---- runs

abbrev pub accounts_after : List Account → Step → List Account
accounts_after es t = slice_set es t.me.who (account_after (account_at es t.me.who) t)

abbrev pub changed : (Account → Account) → List Account → ℕ → List Account
changed f es c = slice_set es c (f (account_at es c))

-- the state after a turn
abbrev pub moved : State → Move → State
moved s (Word t) = state (words_set t.ask s.words) (accounts_after s.accounts t)
moved s (Dies c) = state s.words (changed account_died s.accounts c)
moved s (Begins c k) = state s.words (changed (account_entered k) s.accounts c)

abbrev pub is_dead : Fate → Bool
is_dead Died = true
is_dead _ = false

abbrev pub fell_by : Option Agent → Bool
fell_by None = false
fell_by (Some a) = is_dead a.fate

-- a client begins where the identity is new or gone, a recoverer after a death
abbrev pub MayBegin : Kind → Memo → Type 0
MayBegin Client m = (m.status ≡ New) ⊎ (m.status ≡ Gone)
MayBegin Recoverer m = fell_by (last_agent m.agents) ≡ true

-- a word step is one of an acting agent and sees the word that is there; an acting agent dies; an agent begins where the pool has the identity and none of it acts
abbrev pub IsMove : State → Move → Type 0
IsMove s (Word t) = (t.seen ≡ seen_of t.ask (slice_index s.words (at_of t.ask))) × (acts (memos_of s.accounts t.me.who) ≡ true)
IsMove s (Dies c) = acts (memos_of s.accounts c) ≡ true
IsMove s (Begins c k) = (c < length s.accounts) × (acts (memos_of s.accounts c) ≡ false) × MayBegin k (memos_of s.accounts c)

-- a word step is of this pool, asks for a word of it that the memo tells, is one event and is allowed
pub record IsWordTurn (g : Geometry) (s : State) (t : Step) : Type 0 where
  pub of : t.me.geometry ≡ g
  pub inside : at_of t.ask < total_of g
  pub told : asked_spot (memos_of s.accounts t.me.who) t ≡ spot_at g (classes_in g s.words) (at_of t.ask)
  pub one_event : let p = spot_at g (classes_in g s.words) (at_of t.ask) in
      Stepped g t.me.who t.ask p (event_on (memos_of s.accounts t.me.who) t p) (see g s.words) (view (memos_of s.accounts)) (see g (moved s (Word t)).words) (view (memos_of (moved s (Word t)).accounts))

abbrev pub IsOneEvent : Geometry → State → Move → Type 0
IsOneEvent g s (Word t) = IsWordTurn g s t
IsOneEvent g s (Dies c) = Unit {0}
IsOneEvent g s (Begins c k) = Unit {0}

-- the turn leads to a Held state, and a word step is one event, of a word of this pool
pub record Turned (g : Geometry) (s : State) (m : Move) : Type 0 where
  pub held : Held g (moved s m).words (moved s m).accounts
  pub event : IsOneEvent g s m

-- the turns lead from a to b, each state on the way is Held, and each word step is one event, of a word of this pool
abbrev pub Leads : Geometry → State → List Move → State → Type 0
Leads g a [] b = a ≡ b
Leads g a (m ∷ ms) b = IsMove a m × Turned g a m × Leads g (moved a m) ms b

-- ---- accounts of a run

-- the account of its identity among all
abbrev pub IsAmong : List Account → Account → Type 0
IsAmong rs r = (r.who < length rs) × (account_at rs r.who ≡ r)

-- the account is one of a Held state to which a run of a pool leads that was made so: whatever the invariant says of a memo holds of it
pub record Stood (s : Start) (e : Account) : Type 0 where
  pub words : List ℕ
  pub accounts : List Account
  pub turns : List Move
  pub held : Held s.geometry words accounts
  pub leads : Leads s.geometry (first_state s) turns (state words accounts)
  pub here : IsAmong accounts e
