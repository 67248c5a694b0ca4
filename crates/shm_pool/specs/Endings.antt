-- how the last machine of an agent came to its end: the identity is gone, or is still there
use Rattle.std.specs.Prelude.{◌≡◌, ℕ, true, false, List, ◌++◌, Result, Ok, Err}
use Rattle.shm_graph.specs.declared.{memo.{Memo.Memo, Status.TheVariants.Gone, Step.Step}, run.Account.Account}
use Rattle.shm_graph.specs.{Agents.is_gone, Asks.Trail, Events.Event, Laws.Control, Whole.gives_now}
use Rattle.plans.specs.{CallsControl.{calls_does, calls_of}, CallsFit.{CallsFits, CallsGives}}
use Rattle.shm_count.specs.declared.answer.EraSpent.{EraSpent}
use Rattle.shm_recover.specs.Leave.{Control.{leave_parts, leaving, leave_steered}, MayLeave, leave_plan}
use Rattle.shm_recover.specs.Machines.{leave, Recovering.recover}
use Rattle.shm_recover.specs.Recover.{Control.{recover_parts, recovering, recover_steered}, recover_plan}
use Rattle.shm_pool.specs.{declared.token.Cause.Cause, Calls.{CallSteps, IsDriven, TellsLine, pairs, shown}}
use Rattle.shm_pool.specs.{Doing.AreTold, Tokens.{Acting, Its, Token, me_of, recovering_account}}
use Rattle.shm_pool.specs.declared.token.Cause.TheVariants as cause

-- what such a machine answers: it is done, or the own era left no room for a step
abbrev pub Answer : Type 0
Answer = Result (Unit {0}) EraSpent

-- the own era that left no room
abbrev pub spent : ℕ → EraSpent
spent n = record { era = n }

-- where the machine m is run over the memo r, it leaves the identity gone where it answers Ok, and there still where it doesn't
pub record LeavesGone {M : Type 0} (gives : M → Memo → Memo → Answer → Type 0) (m : M) (r : Memo) : Type 0 where
  pub ok : (r' : Memo) → gives m r r' (Ok tt) → r'.status ≡ Gone
  pub err : (r' : Memo) (e : EraSpent) → gives m r r' (Err e) → is_gone r'.status ≡ false

-- the same identity of the same pool
abbrev pub IsSame : Its → Account → Token → Type 0
IsSame p e t = (t.of ≡ p) × (t.account.who ≡ e.who)

module _ {M : Type 0} (k : Control M Answer) (fits : M → Memo → Memo → Trail → Type 0) (gives : M → Memo → Memo → Answer → Type 0) (m : M) (p : Its) (e : Account) (before left : ℕ) where
  -- a whole call of the machine m by the agent of the account e, of which this account is left, and this was answered: m asked for its steps, their events are those that it tells, and they are its call
  pub record HasAnswered (a : Answer) (e' : Account) : Type 0 where
    pub call : CallSteps (shown k m) e e' true before left
    pub machine : M
    pub driven : IsDriven k fits m machine e e' (call.steps ++ call.last)
    pub asked : k.fresh m ≡ true → e'.memo.call ≡ pairs (call.steps ++ call.last)
    pub gave : gives m e.memo e'.memo a
    pub told : k.fresh m ≡ true → TellsLine (k.line m) e e'

  -- a call of it that was cut off, for no life was left; its steps and events likewise
  pub record HasDied (e' : Account) : Type 0 where
    pub call : CallSteps (shown k m) e e' false before left
    pub machine : M
    pub driven : IsDriven k fits m machine e e' (call.steps ++ call.last)
    pub spent : left ≡ 0

  -- the machine answered Ok, and the identity is gone
  pub record HasEnded (t : Token) : Type 0 where
    pub same : IsSame p e t
    pub gone : t.account.memo.status ≡ Gone
    pub answered : HasAnswered (Ok tt) t.account

  -- no life was left before the machine had answered; or it answered that the own era left no room
  abbrev pub StopsBy : Cause → Account → Type 0
  StopsBy cause.Died e' = HasDied e'
  StopsBy (cause.EraSpent n) e' = HasAnswered (Err (spent n)) e'

  -- its steps
  abbrev pub stopped_steps : (x : Cause) (e' : Account) → StopsBy x e' → List Step
  stopped_steps cause.Died e' h = h.call.steps ++ h.call.last
  stopped_steps (cause.EraSpent n) e' h = h.call.steps ++ h.call.last

  pub record HasStopped (x : Cause) (t : Token) : Type 0 where
    pub same : IsSame p e t
    pub by : StopsBy x t.account

-- the same, where the machine tells of a step what `does` says
module _ {M : Type 0} (k : Control M Answer) (fits : M → Memo → Memo → Trail → Type 0) (gives : M → Memo → Memo → Answer → Type 0) (does : M → ℕ → Event) (m : M) (p : Its) (e : Account) (before left : ℕ) where
  pub record EndIsTold (t : Token) : Type 0 where
    pub same : IsSame p e t
    pub gone : t.account.memo.status ≡ Gone
    pub answered : HasAnswered k fits gives m p e before left (Ok tt) t.account
    pub events : AreTold k does m e (answered.call.steps ++ answered.call.last)

  pub record StopIsTold (x : Cause) (t : Token) : Type 0 where
    pub same : IsSame p e t
    pub by : StopsBy k fits gives m p e before left x t.account
    pub events : AreTold k does m e (stopped_steps k fits gives m p e before left x t.account by)

-- ---- leaving

-- a client may leave: its last machine is finished, and nothing of the identity but roots and segments is left to finish
abbrev pub ClientMayLeave : Its → Account → Type 0
ClientMayLeave p e = MayLeave (me_of p e) e.memo × (e.memo.over ≡ true)

-- what a leaving gave, and that its steps' events are those that it tells
abbrev pub HasLeft : Its → Account → ℕ → ℕ → Token → Type 0
HasLeft p e = EndIsTold leave (CallsFits leave_parts leave_plan) (gives_now (CallsGives leave_parts leave_plan)) (calls_does leave_parts leave_plan) (calls_of leave_steered (leaving (me_of p e))) p e

-- and what stopped it
abbrev pub HasNotLeft : Its → Account → ℕ → ℕ → Cause → Token → Type 0
HasNotLeft p e = StopIsTold leave (CallsFits leave_parts leave_plan) (gives_now (CallsGives leave_parts leave_plan)) (calls_does leave_parts leave_plan) (calls_of leave_steered (leaving (me_of p e))) p e

-- the corpse of a client that took no step any more
abbrev pub fallen_of : Acting → Token
fallen_of t = record { of = t.of; account = t.account }

-- ---- recovering

-- what a recovery gave, and that its steps' events are those that it tells
abbrev pub HasRecovered : Its → Account → ℕ → ℕ → Token → Type 0
HasRecovered p e = EndIsTold recover (CallsFits recover_parts recover_plan) (gives_now (CallsGives recover_parts recover_plan)) (calls_does recover_parts recover_plan) (calls_of recover_steered (recovering (me_of p e))) p (recovering_account e)

-- and what stopped it
abbrev pub HasNotRecovered : Its → Account → ℕ → ℕ → Cause → Token → Type 0
HasNotRecovered p e = StopIsTold recover (CallsFits recover_parts recover_plan) (gives_now (CallsGives recover_parts recover_plan)) (calls_does recover_parts recover_plan) (calls_of recover_steered (recovering (me_of p e))) p (recovering_account e)
