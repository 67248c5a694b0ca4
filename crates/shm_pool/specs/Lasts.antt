-- plans that an agent makes last: each of them leaves its identity gone where it answers Ok
use Rattle.std.specs.Prelude.{◌≡◌, ◌<◌, ℕ, false, true, []}
use Rattle.shm_words.specs.Layout.{GeometryFits}
use Rattle.shm_graph.specs.{declared.{ask.Me.Me, memo.Memo.Memo, run.Account.Account}, Agents.recovers, Laws.Control}
use Rattle.shm_graph.specs.Whole.{gives_now}
use Rattle.plans.specs.{CallsControl.{calls_control, calls_does, calls_of}, CallsFit.{CallsFits, CallsGives}}
use Rattle.plans.specs.{Plans.Planned, Tasks.IsNew}
use Rattle.shm_pool.specs.{declared.token.Cause.Cause, Endings.{Answer, EndIsTold, LeavesGone, StopIsTold}}
use Rattle.shm_pool.specs.Tokens.{Its, Token, has_left}

-- a plan that each recoverer may make
abbrev pub IsForRecoverers : (Me → Memo → Type 0) → Type 0
IsForRecoverers may = (me : Me) (r : Memo) → GeometryFits me.geometry → me.who < me.geometry.clients → recovers r ≡ true → may me r

module _ {P C B : Type 0} (k : Control C B) (q : Planned P C B Answer) (made : Me → P) where
  -- What is owed of the plan that is made for an identity. No call of it has answered. It may begin over a memo of which `may` holds: then a client hasn't left, and what is known before its first call is so. Where it answers Ok the identity is gone, and otherwise it isn't
  pub record LastLaws (may : Me → Memo → Type 0) : Type 0 where
    pub me : (me : Me) → q.steered.me (made me) ≡ me
    pub new : (me : Me) → IsNew k q (made me)
    pub here : (me : Me) (r : Memo) → may me r → recovers r ≡ false → has_left r ≡ false
    pub begins : (me : Me) (r : Memo) → may me r → q.knows (made me) r r [] []
    pub leaves : (me : Me) (r : Memo) → may me r → LeavesGone (gives_now (CallsGives k q)) (calls_of q.steered (made me)) r

  -- what it gave, made by an agent of this identity of which the account was e; and what stopped it
  abbrev pub HasMade : Me → Its → Account → ℕ → ℕ → Token → Type 0
  HasMade me = EndIsTold (calls_control k q.steered) (CallsFits k q) (gives_now (CallsGives k q)) (calls_does k q) (calls_of q.steered (made me))

  abbrev pub HasNotMade : Me → Its → Account → ℕ → ℕ → Cause → Token → Type 0
  HasNotMade me = StopIsTold (calls_control k q.steered) (CallsFits k q) (gives_now (CallsGives k q)) (calls_does k q) (calls_of q.steered (made me))
