-- many word steps of a session on words that others change too
use Rattle.std.specs.Prelude.{◌≡◌, ℕ, ◌+◌, Bool, true, false, Option, None}
use Rattle.shm_session.specs.declared.said.{Ran.Ran, Stage.Stage}
use Rattle.shm_session.specs.Sessions.{Operations, Turned, code_said, fallen_stage}
use Rattle.shm_session.specs.Working.{SessionStop, RunsTo, asking}
use Rattle.shm_mapped.specs.{declared.site.Found.Found, Steps.IsStep}

-- nothing was found yet
abbrev pub at_first : Found
at_first = record { word = 0; beyond = false }

module _ {S A : Type 0} (o : Operations S A) where
  -- where a word was asked for that there isn't, what was in progress is given up, and code 36 is said
  abbrev pub unless_beyond : Bool → Turned S → Turned S
  unless_beyond false t = t
  unless_beyond true t = record { said = code_said 36; stage = fallen_stage o t.stage t.work; work = None }

  -- what is said and what the session became, where there are so many words and so many word steps were to be made at most
  pub record HasRun (count n : ℕ) (t : Stage) (w : Option S) (r : Ran) (t' : Stage) (w' : Option S) : Type 0 where
    pub end : SessionStop S Found
    pub ran : RunsTo o (IsStep count) (λ before a after. after.word) n (asking o t w) at_first end
    pub is : record { said = r.said; stage = t'; work = w' } ≡ unless_beyond end.words.beyond end.turned
    pub steps : r.steps + end.left ≡ n
