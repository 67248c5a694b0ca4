-- plans whose machines are operations
use Rattle.std.proofs.Common.{◌≡◌, true, List, []}
use Rattle.shm_graph.specs.{declared.memo.Memo.Memo, Asks.Trail, Events.Event, Idle.IsIdle, Laws.Control}
use Rattle.shm_graph.specs.Operations.{IsReady}
use Rattle.plans.specs.{declared.calls.Calls.Calls, CallsControl.calls_of, Plans.Planned}

module _ {P C B A : Type 0} (k : Control C B) (q : Planned P C B A) where
  -- no call has answered yet, and the first one hasn't begun
  pub record IsNew (p : P) : Type 0 where
    pub first : q.steered.first p ≡ true
    pub start : q.steered.start p ≡ p
    pub fresh : k.fresh (q.steered.call p) ≡ true

  -- what is owed of a plan whose machine is an operation
  pub record TaskLaws (may : P → Memo → Type 0) (ends : P → A → Type 0) : Type 0 where
    pub new : (p : P) (r : Memo) → may p r → IsNew p
    pub begins : (p : P) (r : Memo) → IsReady (q.steered.me p) r → may p r → q.knows p r r [] []
    pub rests : (p : P) (r0 r : Memo) (tr : Trail) (es : List Event) (a : A) → IsReady (q.steered.me p) r0 → may p r0 → q.leaves p r0 r tr es a → ends p a → IsIdle (q.steered.me p).who r

-- the machine is as it is made of its plan, which may begin
abbrev pub CallsMay : {P C B A : Type 0} → Planned P C B A → (P → Memo → Type 0) → Calls P C → Memo → Type 0
CallsMay q may m r = (m ≡ calls_of q.steered m.plan) × may m.plan r

abbrev pub CallsLeave : {P C B A : Type 0} → Planned P C B A → Calls P C → Memo → Memo → Trail → List Event → A → Type 0
CallsLeave q m = q.leaves m.plan
