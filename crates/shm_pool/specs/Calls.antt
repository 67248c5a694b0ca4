-- a step and a whole call in the account of the caller
use Rattle.std.specs.Prelude.{◌≡◌, ℕ, ◌+◌, Bool, true, false, if◌then◌else◌, Option, Some, None, List, [], ◌∷◌, ◌++◌, length}
use Rattle.shm_graph.specs.declared.{ask.{Me.Me, Turn.{Turn, TheVariants.Done}}, memo.{Memo.Memo, Step.Step}}
use Rattle.shm_graph.specs.{declared.run.Account.Account, Agents.is_gone, Asks.{Trail, call_before, pair}}
use Rattle.shm_graph.specs.{CallEvents.events_of, Events.Event, Idle.IsIdle, Laws.{Control, step_of, turn_of}}
use Rattle.shm_graph.specs.Runs.{account_after, told_by, told_left, begun_by}
use Rattle.shm_graph.specs.{Tells.{Tells, after_all, machine_steps, tells_along}, Whole.Learns}
use Rattle.shm_pool.specs.Rules.{IsMade}

-- what a machine shows of itself
pub record Shown : Type 0 where
  pub me : Me
  pub line : List ℕ
  pub fresh : Bool

-- what a machine shows of itself
abbrev pub shown : {M A : Type 0} → Control M A → M → Shown
shown k m = record { me = k.me m; line = k.line m; fresh = k.fresh m }

-- the account after these steps
abbrev pub accounts_by : Account → List Step → Account
accounts_by r [] = r
accounts_by r (t ∷ ts) = accounts_by (account_after r t) ts

-- each of these steps of an account was one turn of the pool, in a state that is held
abbrev pub AreMade : Account → List Step → Type 0
AreMade r [] = Unit {0}
AreMade r (t ∷ ts) = IsMade r t × AreMade (account_after r t) ts

-- the step is one of a machine that shows s, and is its first one or not
pub record IsBy (s : Shown) (fresh : Bool) (t : Step) : Type 0 where
  pub me : t.me ≡ s.me
  pub line : t.line ≡ s.line
  pub first : t.fresh ≡ fresh

-- steps of a machine that is not finished by them
abbrev pub Going : Shown → Bool → List Step → Type 0
Going s fresh [] = Unit {0}
Going s fresh (t ∷ ts) = IsBy s fresh t × (t.ends ≡ false) × Going s false ts

-- whether the next step is the machine's first one still
abbrev pub fresh_after : Bool → List Step → Bool
fresh_after fresh [] = fresh
fresh_after fresh (t ∷ ts) = false

-- the last step of a whole call, and nothing of one that was cut off
abbrev pub Ending : Shown → Bool → Bool → List Step → Type 0
Ending s fresh true (t ∷ []) = IsBy s fresh t × (t.ends ≡ true)
Ending s fresh false [] = Unit {0}
Ending s fresh _ _ = ⊥

-- the steps of a call that takes the account r to r' and left `left` of `before` steps: all but the last of a whole call, or those of one that was cut off
pub record CallSteps (s : Shown) (r r' : Account) (over : Bool) (before left : ℕ) : Type 0 where
  pub steps : List Step
  pub last : List Step
  pub going : Going s s.fresh steps
  pub ends : Ending s (fresh_after s.fresh steps) over last
  pub account : r' ≡ accounts_by r (steps ++ last)
  pub life : left + length (steps ++ last) ≡ before

module _ {M A : Type 0} (k : Control M A) (fits : M → Memo → Memo → Type 0) (gives : M → Memo → Memo → A → Type 0) where
  -- one step, which is a turn of the pool: the machine m becomes m' and answers t, and the account r becomes r'
  pub record ClientStepped (m : M) (r r' : Account) (t : Turn A) (m' : M) : Type 0 where
    pub seen : ℕ
    pub account : r' ≡ account_after r (step_of k m seen)
    pub next : m' ≡ k.after m seen
    pub turn : t ≡ turn_of (k.turns m seen)
    pub made : IsMade r (step_of k m seen)
    pub suits : Learns k fits gives m seen r.memo r'.memo

-- what these steps asked for, and found
abbrev pub pairs : List Step → Trail
pairs [] = []
pairs (t ∷ ts) = pair t.ask t.seen ∷ pairs ts

module _ {M A : Type 0} (k : Control M A) (fits : M → Memo → Memo → Trail → Type 0) where
  -- these steps of an account, which was r and is r' now, are those that the machine m asked for, which is m' now: each was a turn, they are its call so far, and their events are those that it tells
  pub record IsDriven (m m' : M) (r r' : Account) (ts : List Step) : Type 0 where
    pub steps : ts ≡ machine_steps k m (pairs ts)
    pub machine : m' ≡ after_all k m (pairs ts)
    pub made : AreMade r ts
    pub asked : call_before (fresh_after (k.fresh m) ts) r'.memo.call ≡ call_before (k.fresh m) r.memo.call ++ pairs ts
    pub events : (does : M → ℕ → Event) → Tells k fits does → events_of r.memo ts ≡ tells_along k does m (pairs ts)

  -- a call of the machine m
  pub record Drives (m m' : M) (r r' : Account) (over : Bool) (before left : ℕ) : Type 0 where
    pub call : CallSteps (shown k m) r r' over before left
    pub driven : IsDriven m m' r r' (call.steps ++ call.last)

-- a call that goes on: the machine showed s at first and shows s' now
pub record Ongoing (s : Shown) (r : Account) (s' : Shown) (r' : Account) (before left : ℕ) : Type 0 where
  pub steps : List Step
  pub going : Going s s.fresh steps
  pub account : r' ≡ accounts_by r steps
  pub life : left + length steps ≡ before
  pub me : s'.me ≡ s.me
  pub line : s'.line ≡ s.line
  pub first : s'.fresh ≡ fresh_after s.fresh steps

-- what a whole call of a machine with this line leaves beside the memo
pub record TellsLine (line : List ℕ) (r r' : Account) : Type 0 where
  pub told : r'.told ≡ told_by line r'.memo.call true (told_left true r)
  pub begun : r'.begun ≡ begun_by line r.begun
  pub running : r'.running ≡ []
  pub over : r'.memo.over ≡ true

-- a client between two calls: it is idle, and its last machine is finished
pub record IsBetween (e : Account) : Type 0 where
  pub idle : IsIdle e.who e.memo
  pub over : e.memo.over ≡ true

-- what many word steps told: the answer of the last one, or none where no life was left
abbrev pub answer_in : {A : Type 0} → Turn A → Option A
answer_in (Done a) = Some a
answer_in _ = None

-- an agent ends where its machine is done and leaves the status gone
abbrev pub acts_still : Bool → Memo → Bool
acts_still false m = true
acts_still true m = if is_gone m.status then false else true

-- a machine that was cut off isn't finished, and fits the memo that is left of the one that it began with
pub record StillFits {M A : Type 0} (k : Control M A) (fits : M → Memo → Memo → Type 0) (m : M) (r0 r : Memo) : Type 0 where
  pub going : k.finished m ≡ false
  pub suits : fits m r0 r
