-- which bytes a job reads
use Rattle.std.specs.Prelude.{◌≡◌, ◌⊎◌, ℕ, ◌<◌, ◌≤◌, List, [], length, take, drop, Option, Some, None, MatchOption}
use Rattle.shm_io.specs.{Faults.Rose, Reading.{LosesFront, TakesFront}}
use Rattle.shm_program.specs.declared.words.Job.{Job, TheVariants.{Audit, Migrate, Make, Draw}}

-- how many bytes are read at most: one more than a trace, a script or an image may have, and none where the trace is drawn
abbrev pub limit_of : Job → ℕ
limit_of Audit = 132185377
limit_of Migrate = 132185377
limit_of (Make start size) = 0
limit_of (Draw start size) = 0
limit_of _ = 1048577

-- and for what the words ask for: none where they aren't accepted
abbrev pub most_of : Option Job → ℕ
most_of None = 0
most_of (Some job) = limit_of job

-- the bytes that are asked for: those that the source has left, where it tells them, and none where the trace is drawn
abbrev pub input_of : Job → Option (List ℕ) → Option (List ℕ)
input_of (Make start size) left = Some []
input_of (Draw start size) left = Some []
input_of _ left = left

-- these are all the bytes that the source had left, where it tells them
abbrev pub ReadsAll : Option (List ℕ) → Option (List ℕ) → List ℕ → Type 0
ReadsAll before after bytes = MatchOption before (after ≡ None) (λ left. (bytes ≡ left) × (after ≡ Some []))

-- these are as many bytes as the limit, and the rest is left, where the source tells its bytes
abbrev pub ReadsLimit : ℕ → Option (List ℕ) → Option (List ℕ) → List ℕ → Type 0
ReadsLimit limit before after bytes = (length bytes ≡ limit) × MatchOption before (after ≡ None) (λ left. (bytes ≡ take limit left) × (after ≡ Some (drop limit left)))

-- nothing was read
abbrev pub ReadsNone : Option (List ℕ) → Option (List ℕ) → List ℕ → Type 0
ReadsNone before after bytes = (bytes ≡ []) × (after ≡ before)

-- these are all the bytes that the job is for
abbrev pub Reads : Job → Option (List ℕ) → Option (List ℕ) → List ℕ → Type 0
Reads (Make start size) = ReadsNone
Reads (Draw start size) = ReadsNone
Reads _ = ReadsAll

-- these are the bytes that a source gave up to a limit, and no read failed
pub record IsRead (before : Option (List ℕ)) (faults : ℕ) (after : Option (List ℕ)) (later limit : ℕ) (bytes : List ℕ) : Type 0 where
  pub front : TakesFront before after limit bytes
  pub few : length bytes ≤ limit
  pub quiet : later ≡ faults

-- a source didn't give its bytes up to a limit: a read failed, which is the status 4, or memory was wanting, which is 6
pub record IsUnread (before : Option (List ℕ)) (faults : ℕ) (after : Option (List ℕ)) (later limit code : ℕ) : Type 0 where
  pub ends : ((code ≡ 4) × Rose faults later) ⊎ ((code ≡ 6) × (later ≡ faults))
  pub some : 0 < limit
  pub lost : LosesFront before after limit
