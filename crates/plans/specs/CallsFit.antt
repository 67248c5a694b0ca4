-- when a machine that makes the calls of a plan fits, and what it gives
use Rattle.std.specs.Prelude.{◌≡◌, ◌≢◌, false, List, [], ◌++◌}
use Rattle.shm_graph.specs.{declared.memo.Memo.Memo, Agents.recovers, Asks.Trail, Events.Event, Laws.Control}
use Rattle.shm_graph.specs.Tells.{after_all, happens_along}
use Rattle.plans.specs.{declared.calls.Calls.Calls, Plans.{Planned, plan_trail}}
use Rattle.plans.specs.CallsControl.{calls_control, calls_of, calls_does, calls_start}

module _ {P C B A : Type 0} (k : Control C B) (q : Planned P C B A) where
  -- the events of these pairs, from its first word step on
  abbrev pub events_so_far : Calls P C → Trail → List Event
  events_so_far m tr = happens_along (calls_control k q.steered) (calls_does k q) (calls_start k q.steered m) tr

  -- the events of the call that comes next
  abbrev pub call_events : P → Trail → List Event
  call_events p t = happens_along k (q.part p).does (q.steered.call p) t

  -- The memo was rs when the call in progress began, before that the trail was `before` with the events es, and this was known then. The call fits, and has asked t; what it will give, it gives of the call as it was made
  pub record CallsFits (m : Calls P C) (r0 r : Memo) (tr : Trail) : Type 0 where
    pub rs : Memo
    pub before : Trail
    pub t : Trail
    pub es : List Event
    pub split : tr ≡ before ++ t
    pub later : q.steered.first m.plan ≡ false → before ≢ []
    pub me : k.me m.call ≡ q.steered.me m.plan
    pub agent : recovers r ≡ recovers rs
    pub knows : q.knows m.plan r0 rs before es
    pub fits : (q.part m.plan).fits m.call rs r t
    pub gave : (r2 : Memo) (t2 : Trail) (b : B) → (q.part m.plan).gives m.call rs r2 t2 b → (q.part m.plan).gives (q.steered.call m.plan) rs r2 t2 b
    pub trail : (rest : Trail) (a : A) → plan_trail q m.plan rest a → plan_trail q (q.steered.start m.plan) (before ++ rest) a
    pub there : after_all k (q.steered.call m.plan) t ≡ m.call
    pub course : after_all (calls_control k q.steered) (calls_start k q.steered m) tr ≡ m
    pub events : events_so_far m tr ≡ es ++ call_events m.plan t

  -- what is left of the plan s, by the events; and the trail is a whole one
  pub record PlanGives (s : P) (r0 r : Memo) (tr : Trail) (a : A) : Type 0 where
    pub leaves : q.leaves s r0 r tr (happens_along (calls_control k q.steered) (calls_does k q) (calls_of q.steered s) tr) a
    pub trail : plan_trail q s tr a

  abbrev pub CallsGives : Calls P C → Memo → Memo → Trail → A → Type 0
  CallsGives m = PlanGives (q.steered.start m.plan)
