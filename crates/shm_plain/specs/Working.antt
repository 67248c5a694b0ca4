-- a word step at a place, by what is accounted for of the identity
use Rattle.std.specs.Prelude.{◌⊎◌, true, [], ◌≡◌, ℕ, ◌<◌, false, if◌then◌else◌}
use Rattle.shm_graph.specs.declared.{ask.Turn.Turn, memo.{Memo.Memo, Status.TheVariants.New}, run.Account.Account}
use Rattle.shm_graph.specs.{declared.run.Start.Start, Agents.{acts, last_agent}, Laws.{Control, step_of, turn_of}}
use Rattle.shm_graph.specs.{Runs.{fell_by, account_after, account_entered}, Whole.Learns}
use Rattle.shm_plain.specs.Tracks.{kind_next}

-- the account of which an agent acts: where none did, one has begun
abbrev pub ready_account : Account → Account
ready_account e = if acts e.memo then e else account_entered (kind_next e.memo) e

-- an agent acts; or nobody has joined the identity, so that a client may begin; or the last one died, so that a recoverer may
abbrev pub MayWork : Account → Type 0
MayWork e = acts e.memo ≡ false → ((e.memo.status ≡ New) × (e.memo.agents ≡ [])) ⊎ (fell_by (last_agent e.memo.agents) ≡ true)

-- the machine is of the identity c of this pool, and not finished
abbrev pub IsWorkOf : {M A : Type 0} → Start → ℕ → Control M A → M → Type 0
IsWorkOf s c k m = (k.me m ≡ record { geometry = s.geometry; who = c }) × (c < s.geometry.clients) × (k.finished m ≡ false)

module _ {M A : Type 0} (k : Control M A) (fits : M → Memo → Memo → Type 0) (gives : M → Memo → Memo → A → Type 0) where
  -- one word step: the machine m becomes m' and answers t, and the account e becomes e'
  pub record Worked (m : M) (e e' : Account) (t : Turn A) (m' : M) : Type 0 where
    pub seen : ℕ
    pub account : e' ≡ account_after (ready_account e) (step_of k m seen)
    pub next : m' ≡ k.after m seen
    pub turn : t ≡ turn_of (k.turns m seen)
    pub learns : Learns k fits gives m seen (ready_account e).memo e'.memo
