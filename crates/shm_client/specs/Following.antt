-- the calls of a plan on a pool, made until the plan has answered, or no word step is left
use Rattle.std.specs.{Prelude.{◌≡◌, ℕ, ◌+◌, ◌<◌, false, true, Option, IfSome, length}, Option.is_some}
use Rattle.shm_graph.specs.{declared.memo.Memo.Memo, Events.Event, Laws.Control}
use Rattle.shm_graph.specs.{Tells.{Tells, happens_along}, Whole.{fits_now, gives_now}}
use Rattle.plans.specs.{declared.calls.Calls.Calls, CallsControl.{calls_control, calls_of}, CallsFit.{CallsFits, CallsGives}}
use Rattle.plans.specs.Plans.{Planned}
use Rattle.shm_plain.specs.{Pools.{IsOf, Pool, memo_of, readied}, Calls.{Did, Ran, TookSteps}}

module _ {P C B A : Type 0} (k : Control C B) (q : Planned P C B A) (plan : P) (c : ℕ) where
  -- the machine that makes the plan's calls is one of c, and hasn't answered
  abbrev pub IsFollower : Pool → Type 0
  IsFollower p = IsOf p c (calls_control k q.steered) (calls_of q.steered plan)

  -- before its first word step it fits the memo of c, with the memo r0 as that of its beginning
  abbrev pub FitsFirst : Pool → Memo → Type 0
  FitsFirst p r0 = fits_now (calls_control k q.steered) (CallsFits k q) (calls_of q.steered plan) r0 (memo_of (readied p c) c)

  -- What the calls leave of the pool p with x word steps left: the pool `after` with y left, and this answer. Where there is none the machine fits still
  pub record HasFollowed (p after : Pool) (x y : ℕ) (o : Option A) : Type 0 where
    pub gives : (r0 : Memo) → FitsFirst p r0 → IfSome o (λ a. gives_now (CallsGives k q) (calls_of q.steered plan) r0 (memo_of after c) a)
    pub cut : is_some o ≡ false → (m : Calls P C) × ((calls_control k q.steered).finished m ≡ false) × ((r0 : Memo) → FitsFirst p r0 → fits_now (calls_control k q.steered) (CallsFits k q) m r0 (memo_of (readied after c) c))
    pub ran : Ran c ((calls_control k q.steered).fresh (calls_of q.steered plan)) (is_some o) p after x y
    pub spent : 0 < x → (calls_control k q.steered).fresh (calls_of q.steered plan) ≡ true → y + length (memo_of after c).call ≡ x
    pub took : 0 < x → TookSteps (calls_control k q.steered) c p (calls_of q.steered plan) after
    pub events : 0 < x → (calls_control k q.steered).fresh (calls_of q.steered plan) ≡ true → (does : Calls P C → ℕ → Event) → Tells (calls_control k q.steered) (CallsFits k q) does
        → Did c p after (happens_along (calls_control k q.steered) does (calls_of q.steered plan) (memo_of after c).call)
