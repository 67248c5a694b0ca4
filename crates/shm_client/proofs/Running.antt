-- plans that a pool runs: when their machines may begin, and what they leave, by the plan as it was made
use Rattle.std.proofs.Common.{◌≡◌, ℕ, true, Option, None, Some, List, refl, sym, ap, ◌∙◌, subst}
use Rattle.std.specs.{Prelude.IfSome, Option.is_some}
use Rattle.shm_graph.specs.{declared.{ask.Me.Me, memo.Memo.Memo}, Agents.{acts, recovers}, Events.Event, Laws.Control}
use Rattle.shm_graph.specs.Tells.{happens_along}
use Rattle.shm_plain.specs.{Calls.{Did, IsAtWork, Ran}, Pools.{Pool, memo_of}}
use Rattle.shm_plain.proofs.Calling.{still_kind}
use Rattle.plans.specs.{declared.calls.Calls.Calls, CallsControl.{calls_control, calls_does, calls_of}, Plans.Planned}
use Rattle.plans.specs.Tasks.{CallsLeave, CallsMay}

-- the pool p became r by turns of c alone, whose events the plan s tells, and this is left where s answers a
abbrev pub PlanLeft : {P C B A : Type 0} → Planned P C B A → P → ℕ → Pool → Pool → A → Type 0
PlanLeft q s c p r a = let m = memo_of r c in (es : List Event) × Did c p r es × q.leaves s (memo_of p c) m m.call es a

-- what a run says of its machine m, where it answers
abbrev pub MachineLeft : {P C B A : Type 0} → Control C B → Planned P C B A → Calls P C → ℕ → Pool → Pool → Option A → Type 0
MachineLeft k q m c p r o = IfSome o (λ a. let tr = (memo_of r c).call in let es = happens_along (calls_control k q.steered) (calls_does k q) m tr in Did c p r es × CallsLeave q m (memo_of p c) (memo_of r c) tr es a)

-- what a run of c says that led from the pool p to r, where each answer leaves L and is followed by a call
pub record Said {A : Type 0} (L : A → Type 0) (c : ℕ) (p r : Pool) (x y : ℕ) (o : Option A) : Type 0 where
  pub ran : Ran c true (is_some o) p r x y
  pub work : IfSome o (λ a. Unit {0} → IsAtWork c r)
  pub left : IfSome o L

-- whatever it answers, its agent is of the kind that it was of
pub run_kind : {A : Type 0} (c : ℕ) (p r : Pool) (x y : ℕ) (o : Option A) → acts (memo_of p c) ≡ true → Ran c true (is_some o) p r x y → IfSome o (λ a. recovers (memo_of r c) ≡ recovers (memo_of p c))
run_kind c p r x y None act ran = tt
run_kind c p r x y (Some a) act ran = still_kind c true p r x y act ran

-- the machine m was made of the plan e, and that for the identity x, which is me
module _ {P C B A : Type 0} (q : Planned P C B A) (plan : Me → P) (me x : Me) (e : P) (m : Calls P C) (is : x ≡ me) (planned : e ≡ plan x) (made : m ≡ calls_of q.steered e) where
  same : m ≡ calls_of q.steered (plan me)
  same = made ∙ ap (λ (z : P). calls_of q.steered z) (planned ∙ ap plan is)

  -- it may begin where the plan may
  pub plan_may : (may : P → Memo → Type 0) (r : Memo) → may (plan me) r → CallsMay q may m r
  plan_may may r h = subst (λ (z : Calls P C). CallsMay q may z r) (sym same) (refl, h)

  module _ (k : Control C B) (c : ℕ) (p r : Pool) where
    -- and leaves what the plan does
    plan_left : (o : Option A) → MachineLeft k q m c p r o → IfSome o (PlanLeft q (plan me) c p r)
    plan_left None h = tt
    plan_left (Some a) h =
        let n = memo_of r c in
        let es = happens_along (calls_control k q.steered) (calls_does k q) m n.call in
        (es, h.0, subst (λ (z : Calls P C). q.leaves z.plan (memo_of p c) n n.call es a) same h.1)

    -- so this is what its run says
    pub plan_said : (i j : ℕ) (o : Option A) → Ran c true (is_some o) p r i j → IfSome o (λ a. Unit {0} → IsAtWork c r) → MachineLeft k q m c p r o → Said (PlanLeft q (plan me) c p r) c p r i j o
    plan_said i j o ran work h = record { ran = ran; work = work; left = plan_left o h }

    -- and where it answers a
    pub plan_done : (o : Option A) (a : A) → o ≡ Some a → MachineLeft k q m c p r o → PlanLeft q (plan me) c p r a
    plan_done o a some h = subst (λ (z : Option A). IfSome z (PlanLeft q (plan me) c p r)) some (plan_left o h)
