-- a pool as contracts see it
use Rattle.std.specs.Prelude.{◌≡◌, ℕ, ◌<◌, List, [], ◌∷◌, ◌++◌, slice_index, false}
use Rattle.shm_graph.specs.declared.{memo.{Memo.Memo, Step.Step}, run.{Start.Start, Account.Account, Move.Move}}
use Rattle.shm_graph.specs.{declared.run.Move.TheVariants.Word, Asks.{at_of, seen_of, words_set}, Agents.acts}
use Rattle.shm_graph.specs.Laws.{Control, step_of}
use Rattle.shm_graph.specs.Runs.{Held, Leads, MayBegin, state, first_state, first_words, accounts_from, accounts_after, memos_of}
use Rattle.shm_plain.specs.Tracks.{kind_next, ready_accounts, ready_turns, fall_accounts, fall_turns}

-- what it was made of, its words by address, its accounts by identity, and its turns, the first one first
pub record Pool : Type 0 where
  pub start : Start
  pub words : List ℕ
  pub accounts : List Account
  pub turns : List Move

abbrev pub pool : Start → List ℕ → List Account → List Move → Pool
pool s ws es ts = record { start = s; words = ws; accounts = es; turns = ts }

-- the pool at its first state
abbrev pub first_pool : Start → Pool
first_pool s = pool s (first_words s) (accounts_from s 0 s.geometry.clients) []

abbrev pub memo_of : Pool → ℕ → Memo
memo_of p c = memos_of p.accounts c

-- the pool in which an agent of the identity acts: where none did, one has begun
abbrev pub readied : Pool → ℕ → Pool
readied p c = pool p.start p.words (ready_accounts p.accounts c) (ready_turns p.accounts p.turns c)

-- the word step that a machine makes next on these words
abbrev pub next_of : {M A : Type 0} → Control M A → M → List ℕ → Step
next_of k m ws = step_of k m (seen_of (k.asks m) (slice_index ws (at_of (k.asks m))))

-- and on the words of this pool
abbrev pub turn_on : {M A : Type 0} → Pool → Control M A → M → Step
turn_on p k m = next_of k m p.words

-- the pool after a word step
abbrev pub turned : Pool → Step → Pool
turned p t = pool p.start (words_set t.ask p.words) (accounts_after p.accounts t) (p.turns ++ Word t ∷ [])

-- the pool in which no agent of the identity acts: where one did, it is dead
abbrev pub after_fall : Pool → ℕ → Pool
after_fall p c = pool p.start p.words (fall_accounts p.accounts c) (fall_turns p.accounts p.turns c)

-- the state is Held, and the turns lead to it from the first one
pub record IsRun (p : Pool) : Type 0 where
  pub held : Held p.start.geometry p.words p.accounts
  pub leads : Leads p.start.geometry (first_state p.start) p.turns (state p.words p.accounts)

-- the machine is of the identity c, and not finished
abbrev pub IsOf : {M A : Type 0} → Pool → ℕ → Control M A → M → Type 0
IsOf p c k m = (k.me m ≡ record { geometry = p.start.geometry; who = c }) × (c < p.start.geometry.clients) × (k.finished m ≡ false)

-- an agent of c acts, or the next one may begin
abbrev pub MayStep : Pool → ℕ → Type 0
MayStep p c = acts (memo_of p c) ≡ false → MayBegin (kind_next (memo_of p c)) (memo_of p c)
