-- the rule of the shared words, and what a seat knows
use Rattle.std.specs.Prelude.{◌≡◌, ℕ, ◌+◌, ◌<◌, ◌==◌, true, false, if◌then◌else◌, List, [], ◌∷◌}
use Rattle.atomic_table.specs.declared.shared.Seat.{Seat}
use Rattle.shm_words.specs.declared.geometry.Geometry.{Geometry}
use Rattle.shm_graph.specs.declared.{run.{Start.Start, Account.Account, Move.{Move, TheVariants.Word}}, memo.Memo.Memo}
use Rattle.shm_graph.specs.{declared.memo.Step.Step, Agents.acts, Asks.seen_of, Laws.{Control, step_of}}
use Rattle.shm_graph.specs.Runs.{Held, IsMove, Leads, Turned, state, first_state, account_after, first_account, IsAmong, Stood}
use Rattle.shm_graph.specs.Whole.{Learns}

-- how often the identity c stands in a view
abbrev pub count_in : ℕ → List Account → ℕ
count_in c [] = 0
count_in c (r ∷ rs) = (if r.who == c then 1 else 0) + count_in c rs

-- in all views
abbrev pub count_by : ℕ → List (List Account) → ℕ
count_by c [] = 0
count_by c (v ∷ vs) = count_in c v + count_by c vs

-- each account of a view is one of these
abbrev pub ViewKnows : List Account → List Account → Type 0
ViewKnows rs [] = Unit {0}
ViewKnows rs (r ∷ v) = IsAmong rs r × ViewKnows rs v

-- and each account of each view
abbrev pub AllKnow : List Account → List (List Account) → Type 0
AllKnow rs [] = Unit {0}
AllKnow rs (v ∷ vs) = ViewKnows rs v × AllKnow rs vs

-- the words are those of a Held state to which a run leads, each view shows accounts of that state, and each identity stands in exactly one view
pub record Rule (s : Start) (ws : List ℕ) (views : List (List Account)) : Type 0 where
  pub accounts : List Account
  pub turns : List Move
  pub held : Held s.geometry ws accounts
  pub leads : Leads s.geometry (first_state s) turns (state ws accounts)
  pub known : AllKnow accounts views
  pub stands : (c : ℕ) → c < s.geometry.clients → count_by c views ≡ 1

-- an account of no pool, where a list has none
abbrev pub no_account : Account
no_account = first_account (record { geometry = record { clients = 0; segments = 0; wide = false }; first_era = 0; tables = false }) 0

-- the first account of a view
abbrev pub head_account : List Account → Account
head_account [] = no_account
head_account (r ∷ rs) = r

-- the account of a seat that answers for one identity
abbrev pub alone : Seat (Unit {0}) (List Account) → Account
alone s = head_account s.me.0

-- the seat answers for one identity, and nothing is left to note
abbrev pub IsAlone : Seat (Unit {0}) (List Account) → Type 0
IsAlone s = s.me ≡ (head_account s.me.0 ∷ [], [])

-- the machine is of this identity, whose agent acts, and is not finished
abbrev pub IsOf : {M A : Type 0} → Geometry → Account → Control M A → M → Type 0
IsOf g e k m = (k.me m ≡ record { geometry = g; who = e.who }) × (e.who < g.clients) × (k.finished m ≡ false) × (acts e.memo ≡ true)

-- the identity of the account e made the word step t in this state: it is held, the word that was found was there, and the step is one turn of one event
pub record IsMade (e : Account) (t : Step) : Type 0 where
  pub words : List ℕ
  pub accounts : List Account
  pub held : Held t.me.geometry words accounts
  pub here : IsAmong accounts e
  pub move : IsMove (state words accounts) (Word t)
  pub turned : Turned t.me.geometry (state words accounts) (Word t)

module _ {M A : Type 0} (k : Control M A) (fits : M → Memo → Memo → Type 0) (gives : M → Memo → Memo → A → Type 0) where
  -- the account e' after the step of m that was given n
  abbrev pub AccountTold : Start → M → Account → ℕ → Account → Type 0
  AccountTold s m e n e' = (e' ≡ account_after e (step_of k m n)) × Learns k fits gives m n e.memo e'.memo × Stood s e' × IsMade e (step_of k m n)

  -- what is told follows from what the step is
  abbrev pub Follows : Start → M → Account → ℕ → (List Account → Type 0) → Type 0
  Follows s m e n says = let t : Step = step_of k m (seen_of (k.asks m) n) in Learns k fits gives m (seen_of (k.asks m) n) e.memo (account_after e t).memo → Stood s (account_after e t) → IsMade e t → says (account_after e t ∷ [])
